-- Which tokens may stand behind an expression that has no parentheses of its own.
use Rattle.std.proofs.Common.{◌≡◌, ℕ, suc, Bool, true, false, ◌&&◌, refl, arith}
use Rattle.std.specs.Prelude.{nat_le}
use Rattle.nesc_tree.specs.declared.sorts.Sort.{Sort}
use Rattle.nesc_tree.specs.declared.sorts.Sort.TheVariants as s
use Rattle.nesc_tree.specs.declared.tree.InOp.{InOp}
use Rattle.nesc_tree.specs.declared.tree.InOp.TheVariants as op
use Rattle.nesc_tree.specs.declared.tree.PreOp.{PreOp}
use Rattle.nesc_tree.specs.declared.tree.PreOp.TheVariants as pre
use Rattle.nesc_tree.specs.Level as level
use Rattle.nesc_tree.specs.Plain as p
use Rattle.nesc_tree.specs.Phrase.{is_operator, begins_expr, begins_type}
use Rattle.nesc_grammar.specs.Grammar.{binds, needs, may}
use Rattle.nesc_print_words.specs.Operators.{infix_level, prefix_needs}
use Rattle.nesc_print_words.specs.Expressions.{level_of}
use Rattle.nesc_print_laws.proofs.Signs.{infix_sort}

-- the level at which the operand at its right end is read
abbrev pub edge_of : p.Expr → ℕ
edge_of (p.unary o e at) = prefix_needs o
edge_of (p.binary o a b at) = suc (infix_level o)
edge_of (p.assign o a b at) = level.assignment
edge_of (p.choice a b c at) = level.conditional
edge_of (p.comma a b at) = level.assignment
edge_of (p.cast t e at) = level.cast
edge_of (p.size_of_expr e at) = level.unary
edge_of _ = 16

pub le_refl : (n : ℕ) → nat_le n n ≡ true
le_refl n = grind arith

pub le_trans : (a b c : ℕ) → nat_le a b ≡ true → nat_le b c ≡ true → nat_le a c ≡ true
le_trans a b c g h = grind arith

pub le_total : (m n : ℕ) → nat_le m n ≡ false → nat_le n m ≡ true
le_total m n h = grind arith

pub le_zero : (n : ℕ) → nat_le 0 n ≡ true
le_zero n = grind arith

above : (n b k : ℕ) → nat_le b k ≡ true → nat_le k n ≡ true → nat_le (suc n) b ≡ false
above n b k g h = grind arith

less_above : (m n b : ℕ) → nat_le m n ≡ true → nat_le m b ≡ false → nat_le n b ≡ false
less_above m n b g h = grind arith

pub up_one : (m n : ℕ) → nat_le m n ≡ true → nat_le m (suc n) ≡ true
up_one m n h = grind arith

binds_needs : (x : Sort) → nat_le (binds x) (needs x) ≡ true
binds_needs s.End = refl
binds_needs _ = refl

and_false : (a b : Bool) → b ≡ false → (a && b) ≡ false
and_false true b h = h
and_false false b h = refl

pub and_true : (a b : Bool) → a ≡ true → b ≡ true → (a && b) ≡ true
and_true a b g h = rw (g, h) refl

pub not_both : (a b c : Bool) → (a && b) ≡ false → ((a && b) && c) ≡ false
not_both a b c h = rw h refl

-- a token that goes on nothing of a level goes on nothing of a higher one
pub may_up : (m n : ℕ) (x : Sort) → nat_le m n ≡ true → may m x ≡ false → may n x ≡ false
may_up m n x l h = by (is_operator x) h
  where
    by : (o : Bool) → (o && nat_le m (binds x)) ≡ false → (o && nat_le n (binds x)) ≡ false
    by true g = less_above m n (binds x) l g
    by false g = refl

pub nothing_higher : (x : Sort) → may 16 x ≡ false
nothing_higher s.End = refl
nothing_higher _ = refl

pub next_level : (n : ℕ) (x : Sort) → nat_le (needs x) n ≡ true → may (suc n) x ≡ false
next_level n x h = and_false (is_operator x) (nat_le (suc n) (binds x)) (above n (binds x) (needs x) (binds_needs x) h)

behind_assignment : (x : Sort) → nat_le (needs x) 1 ≡ true → may 1 x ≡ false
behind_assignment s.Comma h = refl
behind_assignment s.Assign h = absurd cc
behind_assignment s.OpAssign h = absurd cc
behind_assignment s.Question h = absurd cc
behind_assignment s.OrOr h = absurd cc
behind_assignment s.AndAnd h = absurd cc
behind_assignment s.Bar h = absurd cc
behind_assignment s.Caret h = absurd cc
behind_assignment s.Amp h = absurd cc
behind_assignment s.Equality h = absurd cc
behind_assignment s.Less h = absurd cc
behind_assignment s.Greater h = absurd cc
behind_assignment s.OrEqual h = absurd cc
behind_assignment s.Shift h = absurd cc
behind_assignment s.Plus h = absurd cc
behind_assignment s.Minus h = absurd cc
behind_assignment s.Star h = absurd cc
behind_assignment s.Divide h = absurd cc
behind_assignment s.LBracket h = absurd cc
behind_assignment s.LParen h = absurd cc
behind_assignment s.Dot h = absurd cc
behind_assignment s.Arrow h = absurd cc
behind_assignment s.Step h = absurd cc
behind_assignment _ h = refl

behind_choice : (x : Sort) → nat_le (needs x) 2 ≡ true → may 2 x ≡ false
behind_choice s.Question h = absurd cc
behind_choice s.OrOr h = absurd cc
behind_choice s.AndAnd h = absurd cc
behind_choice s.Bar h = absurd cc
behind_choice s.Caret h = absurd cc
behind_choice s.Amp h = absurd cc
behind_choice s.Equality h = absurd cc
behind_choice s.Less h = absurd cc
behind_choice s.Greater h = absurd cc
behind_choice s.OrEqual h = absurd cc
behind_choice s.Shift h = absurd cc
behind_choice s.Plus h = absurd cc
behind_choice s.Minus h = absurd cc
behind_choice s.Star h = absurd cc
behind_choice s.Divide h = absurd cc
behind_choice s.LBracket h = absurd cc
behind_choice s.LParen h = absurd cc
behind_choice s.Dot h = absurd cc
behind_choice s.Arrow h = absurd cc
behind_choice s.Step h = absurd cc
behind_choice _ h = refl

-- no operator makes an expression of the level of a cast or of a prefix
behind_cast : (x : Sort) → nat_le (needs x) 14 ≡ true → may 13 x ≡ false
behind_cast s.LBracket h = absurd cc
behind_cast s.LParen h = absurd cc
behind_cast s.Dot h = absurd cc
behind_cast s.Arrow h = absurd cc
behind_cast s.Step h = absurd cc
behind_cast _ h = refl

thirteen : (x : Sort) → may 14 x ≡ false → may 13 x ≡ false
thirteen s.LBracket h = absurd cc
thirteen s.LParen h = absurd cc
thirteen s.Dot h = absurd cc
thirteen s.Arrow h = absurd cc
thirteen s.Step h = absurd cc
thirteen _ h = refl

prefix_follows : (o : PreOp) (x : Sort) → nat_le (needs x) 14 ≡ true → may (prefix_needs o) x ≡ false
prefix_follows pre.Inc x h = may_up 13 14 x refl (behind_cast x h)
prefix_follows pre.Dec x h = may_up 13 14 x refl (behind_cast x h)
prefix_follows _ x h = behind_cast x h

prefix_ends : (o : PreOp) (x : Sort) → may 14 x ≡ false → may (prefix_needs o) x ≡ false
prefix_ends pre.Inc x h = h
prefix_ends pre.Dec x h = h
prefix_ends _ x h = thirteen x h

-- a token that goes on the whole expression goes on nothing at its right end
pub left_follows : (e : p.Expr) (x : Sort) → nat_le (needs x) (level_of e) ≡ true → may (edge_of e) x ≡ false
left_follows (p.unary o e at) x h = prefix_follows o x h
left_follows (p.binary o a b at) x h = next_level (infix_level o) x h
left_follows (p.assign o a b at) x h = behind_assignment x h
left_follows (p.choice a b c at) x h = behind_choice x h
left_follows (p.comma a b at) x h = next_level 0 x h
left_follows (p.cast t e at) x h = behind_cast x (le_trans (needs x) 13 14 h refl)
left_follows (p.size_of_expr e at) x h = may_up 13 14 x refl (behind_cast x h)
left_follows _ x h = nothing_higher x

-- nor does a token that ends what is of this level
pub right_follows : (e : p.Expr) (m : ℕ) (x : Sort) → nat_le m (level_of e) ≡ true → may m x ≡ false → may (edge_of e) x ≡ false
right_follows (p.unary o e at) m x l h = prefix_ends o x (may_up m 14 x l h)
right_follows (p.binary o a b at) m x l h = may_up m (suc (infix_level o)) x (up_one m (infix_level o) l) h
right_follows (p.assign o a b at) m x l h = may_up m 1 x l h
right_follows (p.choice a b c at) m x l h = may_up m 2 x l h
right_follows (p.comma a b at) m x l h = may_up m 1 x (up_one m 0 l) h
right_follows (p.cast t e at) m x l h = may_up m 13 x l h
right_follows (p.size_of_expr e at) m x l h = may_up m 14 x l h
right_follows _ m x l h = nothing_higher x

pub no_type : (x : Sort) → begins_expr x ≡ true → begins_type x ≡ false
no_type s.Qualifier h = absurd cc
no_type s.Void h = absurd cc
no_type s.Signedness h = absurd cc
no_type s.CharType h = absurd cc
no_type s.Length h = absurd cc
no_type s.Int h = absurd cc
no_type s.TypeName h = absurd cc
no_type s.Struct h = absurd cc
no_type s.Enum h = absurd cc
no_type _ h = refl

-- what the operator is to the grammar has its level
pub infix_is : (o : InOp) → is_operator (infix_sort o) ≡ true
infix_is op.Mul = refl
infix_is _ = refl

pub infix_needs : (o : InOp) → needs (infix_sort o) ≡ infix_level o
infix_needs op.Mul = refl
infix_needs _ = refl

pub infix_binds : (o : InOp) → binds (infix_sort o) ≡ infix_level o
infix_binds op.Mul = refl
infix_binds _ = refl

pub infix_small : (o : InOp) → nat_le (infix_level o) 15 ≡ true
infix_small op.Mul = refl
infix_small _ = refl

pub infix_low : (o : InOp) → nat_le 14 (infix_level o) ≡ false
infix_low op.Mul = refl
infix_low _ = refl
