-- Code of which each number can be seen to be one of its word, and which names no port and begins nothing.
use Rattle.std.proofs.Common.{◌≡◌, ℕ, Bool, true, false, ◌&&◌, nat_lt, List, [], ◌∷◌, ◌++◌, refl, ap, ◌∙◌}
use Rattle.std.specs.Prelude.{if◌then◌else◌}
use Rattle.nm_base.specs.declared.int_type.IntType.{IntType}
use Rattle.nm_base.specs.declared.int_type.IntType.TheVariants.{I8, U8, I16, U16, I32, U32}
use Rattle.nesc_core.specs.declared.tree.UnOp.{UnOp}
use Rattle.nesc_core.specs.declared.tree.UnOp.TheVariants as un
use Rattle.nesc_core.specs.declared.tree.BinOp.{BinOp}
use Rattle.nesc_core.specs.declared.tree.BinOp.TheVariants as bin
use Rattle.mid_code.specs.declared.instr.Mid.{Mid}
use Rattle.mid_code.specs.declared.instr.Mid.TheVariants.{Set, In, Out, Begin, Fault}
use Rattle.mid_code.specs.declared.help.HelpOp.{HelpOp}
use Rattle.mid_code.specs.declared.help.HelpOp.TheVariants as help
use Rattle.mid_code.specs.declared.instr.Op.{Op}
use Rattle.mid_code.specs.declared.instr.Op.TheVariants.{Add, Sub, And, Or, Xor}
use Rattle.mid_code.specs.declared.instr.Test.{Test}
use Rattle.mid_code.specs.declared.instr.Test.TheVariants.{Eq, Ne}
use Rattle.mid_code.specs.Help.{is_wide}
use Rattle.lower_expr.specs.declared.spot.Regs.{Regs}
use Rattle.lower_expr.specs.Held.{is_signed}
use Rattle.lower_expr.specs.Pieces.{binary_code, bits_code, convert_code, count_code, divisor_code, equal_code, fit_code, high_code, move_code, order_code, product_code, shift_code, sum_code, truth_code, unary_code, zero_code}
use Rattle.lower_expr.specs.Code.{Kind, InValues, InFrame, InMemory, address_code, fetch_code, keep_code, load_code, peek_code, put_code, take_code}
use Rattle.lower_stmt.specs.Code.{same_code, zero_regs_code}

abbrev pub one_plain : Mid → Bool
one_plain (Set v n) = nat_lt n 65536
one_plain (In v port) = false
one_plain (Out port v) = false
one_plain (Begin o) = false
one_plain (Fault code) = nat_lt code 256
one_plain _ = true

abbrev pub plain_code : List Mid → Bool
plain_code [] = true
plain_code (i ∷ is) = one_plain i && plain_code is

plain_both : (a b : List Mid) → plain_code (a ++ b) ≡ (plain_code a && plain_code b)
plain_both [] b = refl
plain_both (i ∷ a) b = by (one_plain i) (plain_both a b)
  where
    by : (t : Bool) → plain_code (a ++ b) ≡ (plain_code a && plain_code b) → (t && plain_code (a ++ b)) ≡ ((t && plain_code a) && plain_code b)
    by true h = h
    by false h = refl

pub record IsPlain (c : List Mid) : Type 0 where
  pub none : plain_code c ≡ true

pub both_plain : (a b : List Mid) → IsPlain a → IsPlain b → IsPlain (a ++ b)
both_plain a b h g = record { none = plain_both a b ∙ ap (λ t. t && plain_code b) h.none ∙ g.none }

pub if_plain : (t : Bool) (a b : List Mid) → IsPlain a → IsPlain b → IsPlain (if t then a else b)
if_plain true a b h g = h
if_plain false a b h g = g

-- ---- pieces

pub move_plain : (wide : Bool) (d r : ℕ) → IsPlain (move_code wide d r)
move_plain true d r = record { none = refl }
move_plain false d r = record { none = refl }

pub fit_plain : (t : IntType) (r : ℕ) → IsPlain (fit_code t r)
fit_plain I8 r = record { none = refl }
fit_plain U8 r = record { none = refl }
fit_plain I16 r = record { none = refl }
fit_plain U16 r = record { none = refl }
fit_plain I32 r = record { none = refl }
fit_plain U32 r = record { none = refl }

pub high_plain : (from to signed : Bool) (r l : ℕ) → IsPlain (high_code from to signed r l)
high_plain true to signed r l = record { none = refl }
high_plain false true true r l = record { none = refl }
high_plain false true false r l = record { none = refl }
high_plain false false signed r l = record { none = refl }

pub convert_plain : (from to : IntType) (r l : ℕ) → IsPlain (convert_code from to r l)
convert_plain from to r l = both_plain (fit_code to r) (high_code (is_wide from) (is_wide to) (is_signed from) r l) (fit_plain to r) (high_plain (is_wide from) (is_wide to) (is_signed from) r l)

pub zero_plain : (test : Test) (wide : Bool) (r l : ℕ) → IsPlain (zero_code test wide r l)
zero_plain test true r l = record { none = refl }
zero_plain test false r l = record { none = refl }

pub unary_plain : (op : UnOp) (wide : Bool) (r l : ℕ) → IsPlain (unary_code op wide r l)
unary_plain un.Neg true r l = record { none = refl }
unary_plain un.Neg false r l = record { none = refl }
unary_plain un.Not true r l = record { none = refl }
unary_plain un.Not false r l = record { none = refl }
unary_plain un.IsZero wide r l = both_plain (zero_code Eq wide r l) (truth_code r l) (zero_plain Eq wide r l) (record { none = refl })

pub sum_plain : (op : Op) (wide : Bool) (r : ℕ) → IsPlain (sum_code op wide r)
sum_plain op true r = record { none = refl }
sum_plain op false r = record { none = refl }

pub bits_plain : (op : Op) (wide : Bool) (r : ℕ) → IsPlain (bits_code op wide r)
bits_plain op true r = record { none = refl }
bits_plain op false r = record { none = refl }

pub divisor_plain : (wide : Bool) (r l : ℕ) → IsPlain (divisor_code wide r l)
divisor_plain true r l = record { none = refl }
divisor_plain false r l = record { none = refl }

pub count_plain : (wide : Bool) (r l : ℕ) → IsPlain (count_code wide r l)
count_plain true r l = record { none = refl }
count_plain false r l = record { none = refl }

pub shift_plain : (o : HelpOp) (t s : IntType) (r l : ℕ) → IsPlain (shift_code o t s r l)
shift_plain o t s r l = both_plain (count_code (is_wide s) r l) _ (count_plain (is_wide s) r l) (record { none = refl })

pub equal_plain : (test : Test) (wide : Bool) (r l : ℕ) → IsPlain (equal_code test wide r l)
equal_plain test true r l = record { none = refl }
equal_plain test false r l = record { none = refl }

pub order_plain : (strict signed wide : Bool) (r l : ℕ) → IsPlain (order_code strict signed wide r l)
order_plain strict signed true r l = record { none = refl }
order_plain true signed false r l = record { none = refl }
order_plain false signed false r l = record { none = refl }

pub binary_plain : (op : BinOp) (t s : IntType) (r l : ℕ) → IsPlain (binary_code op t s r l)
binary_plain bin.Add t s r l = both_plain (sum_code Add (is_wide t) r) (fit_code t r) (sum_plain Add (is_wide t) r) (fit_plain t r)
binary_plain bin.Sub t s r l = both_plain (sum_code Sub (is_wide t) r) (fit_code t r) (sum_plain Sub (is_wide t) r) (fit_plain t r)
binary_plain bin.Mul t s r l = record { none = refl }
binary_plain bin.Div t s r l = both_plain (divisor_code (is_wide t) r l) (product_code help.Div t r) (divisor_plain (is_wide t) r l) (record { none = refl })
binary_plain bin.Rem t s r l = both_plain (divisor_code (is_wide t) r l) (product_code help.Rem t r) (divisor_plain (is_wide t) r l) (record { none = refl })
binary_plain bin.And t s r l = bits_plain And (is_wide t) r
binary_plain bin.Or t s r l = bits_plain Or (is_wide t) r
binary_plain bin.Xor t s r l = bits_plain Xor (is_wide t) r
binary_plain bin.Shl t s r l = shift_plain help.Shl t s r l
binary_plain bin.Shr t s r l = shift_plain help.Shr t s r l
binary_plain bin.Eq t s r l = equal_plain Eq (is_wide t) r l
binary_plain bin.Ne t s r l = equal_plain Ne (is_wide t) r l
binary_plain bin.Lt t s r l = order_plain true (is_signed t) (is_wide t) r l
binary_plain bin.Le t s r l = order_plain false (is_signed t) (is_wide t) r l

pub load_plain : (t : IntType) (d r : ℕ) → IsPlain (load_code t d r)
load_plain I8 d r = record { none = refl }
load_plain U8 d r = record { none = refl }
load_plain I16 d r = record { none = refl }
load_plain U16 d r = record { none = refl }
load_plain I32 d r = record { none = refl }
load_plain U32 d r = record { none = refl }

pub peek_plain : (t : IntType) (d r : ℕ) → IsPlain (peek_code t d r)
peek_plain I8 d r = record { none = refl }
peek_plain U8 d r = record { none = refl }
peek_plain I16 d r = record { none = refl }
peek_plain U16 d r = record { none = refl }
peek_plain I32 d r = record { none = refl }
peek_plain U32 d r = record { none = refl }

pub take_plain : (wide : Bool) (regs : Regs) (d : ℕ) → IsPlain (take_code wide regs d)
take_plain true regs d = record { none = refl }
take_plain false regs d = record { none = refl }

pub keep_plain : (wide : Bool) (regs : Regs) (v : ℕ) → IsPlain (keep_code wide regs v)
keep_plain true regs v = record { none = refl }
keep_plain false regs v = record { none = refl }

pub fetch_plain : (kind : Kind) (t : IntType) (d r : ℕ) → IsPlain (fetch_code kind t d r)
fetch_plain (InValues regs) t d r = take_plain (is_wide t) regs d
fetch_plain InFrame t d r = peek_plain t d r
fetch_plain InMemory t d r = load_plain t d r

pub put_plain : (kind : Kind) (t : IntType) (v r : ℕ) → IsPlain (put_code kind t v r)
put_plain (InValues regs) t v r = keep_plain (is_wide t) regs v
put_plain InFrame t v r = if_plain (is_wide t) _ _ (record { none = refl }) (record { none = refl })
put_plain InMemory t v r = if_plain (is_wide t) _ _ (record { none = refl }) (record { none = refl })

pub address_plain : (kind : Kind) (r : ℕ) → IsPlain (address_code kind r)
address_plain (InValues regs) r = record { none = refl }
address_plain InFrame r = record { none = refl }
address_plain InMemory r = record { none = refl }

pub same_plain : (wide : Bool) (r l : ℕ) → IsPlain (same_code wide r l)
same_plain true r l = record { none = refl }
same_plain false r l = record { none = refl }

pub regs_plain : (wide : Bool) (regs : Regs) → IsPlain (zero_regs_code wide regs)
regs_plain true regs = record { none = refl }
regs_plain false regs = record { none = refl }
