-- Code without a Post, and the pieces of lowered code that have none.
use Rattle.std.proofs.Common.{◌≡◌, ℕ, zero, suc, ◌+◌, ◌==◌, Bool, true, false, ◌&&◌, List, [], ◌∷◌, ◌++◌, Option, Some, None, refl, ap, subst, ◌∙◌}
use Rattle.std.specs.Prelude.{ℤ, if◌then◌else◌, slice_get}
use Rattle.std.specs.Ordering.{int_eq}
use Rattle.nm_base.specs.declared.int_type.IntType.{IntType}
use Rattle.nm_base.specs.declared.int_type.IntType.TheVariants.{I8, U8, I16, U16, I32, U32}
use Rattle.nm_base.specs.IntType.{wrapped}
use Rattle.nesc_core.specs.Plain.{Ty}
use Rattle.nesc_core.specs.declared.tree.UnOp.{UnOp}
use Rattle.nesc_core.specs.declared.tree.UnOp.TheVariants as un
use Rattle.nesc_core.specs.declared.tree.BinOp.{BinOp}
use Rattle.nesc_core.specs.declared.tree.BinOp.TheVariants as bin
use Rattle.mid_code.specs.declared.instr.Mid.{Mid}
use Rattle.mid_code.specs.declared.instr.Mid.TheVariants.{Bin, Post}
use Rattle.mid_code.specs.declared.help.HelpOp.{HelpOp}
use Rattle.mid_code.specs.declared.help.HelpOp.TheVariants as help
use Rattle.mid_code.specs.declared.instr.Op.{Op}
use Rattle.mid_code.specs.declared.instr.Op.TheVariants.{Add, Sub, And, Or, Xor}
use Rattle.mid_code.specs.declared.instr.Test.{Test}
use Rattle.mid_code.specs.declared.instr.Test.TheVariants.{Eq, Ne}
use Rattle.mid_code.specs.Help.{is_wide}
use Rattle.core_meaning.specs.Work.{number_of}
use Rattle.lower_expr.specs.declared.spot.Regs.{Regs}
use Rattle.lower_expr.specs.declared.spot.Spot.{Spot}
use Rattle.lower_expr.specs.declared.spot.Spot.TheVariants.{Values, Frame}
use Rattle.lower_expr.specs.Held.{is_signed}
use Rattle.lower_expr.specs.Pieces.{binary_code, bits_code, bound_code, const_code, convert_code, count_code, distance_code, divisor_code, element_code, equal_code, fit_code, high_code, index_bound, move_code, offset_code, order_code, product_code, scaled_code, shift_code, sum_code, truth_code, unary_code, zero_code}
use Rattle.lower_expr.specs.Code.{Kind, InValues, InFrame, InMemory, address_code, fetch_code, keep_code, load_code, local_code, peek_code, put_code, take_code}
use Rattle.lower_stmt.specs.Code.{case_code, same_code, zero_local_code, zero_regs_code}

abbrev pub is_other : Mid → Bool
is_other (Post k v) = false
is_other _ = true

abbrev pub has_none : List Mid → Bool
has_none [] = true
has_none (i ∷ is) = is_other i && has_none is

pub record IsFree (c : List Mid) : Type 0 where
  pub none : has_none c ≡ true

both_none : (a b : List Mid) → has_none (a ++ b) ≡ (has_none a && has_none b)
both_none [] b = refl
both_none (i ∷ a) b = by (is_other i) (both_none a b)
  where
    by : (t : Bool) → has_none (a ++ b) ≡ (has_none a && has_none b) → (t && has_none (a ++ b)) ≡ ((t && has_none a) && has_none b)
    by true h = h
    by false h = refl

pub both : (a b : List Mid) → IsFree a → IsFree b → IsFree (a ++ b)
both a b h g = record { none = both_none a b ∙ ap (λ t. t && has_none b) h.none ∙ g.none }

pub before : (i : Mid) (a : List Mid) → is_other i ≡ true → IsFree a → IsFree (i ∷ a)
before i a q h = record { none = ap (λ t. t && has_none a) q ∙ h.none }

pub either : (t : Bool) (a b : List Mid) → IsFree a → IsFree b → IsFree (if t then a else b)
either true a b h g = h
either false a b h g = g

-- no instruction of it is a Post
later : (t s : Bool) → (t && s) ≡ true → s ≡ true
later true s h = h
later false s h = absurd (cc)

pub none_at : (code : List Mid) (at k v : ℕ) → has_none code ≡ true → slice_get code at ≡ Some (Post k v) → ⊥
none_at [] at k v h e = absurd (cc)
none_at (i ∷ code) zero k v h e =
    let same : i ≡ Post k v = cc in
    let z : false ≡ true = subst (λ j. (is_other j && has_none code) ≡ true) same h in
    absurd (let y : ⊥ = cc in y)
none_at (i ∷ code) (suc at) k v h e = none_at code at k v (later (is_other i) (has_none code) h) e

-- ---- pieces

pub const_free : (t : IntType) (x : ℤ) (r : ℕ) → IsFree (const_code t x r)
const_free t x r = either (is_wide t) _ _ (record { none = refl }) (record { none = refl })

pub move_free : (wide : Bool) (d r : ℕ) → IsFree (move_code wide d r)
move_free true d r = record { none = refl }
move_free false d r = record { none = refl }

pub fit_free : (t : IntType) (r : ℕ) → IsFree (fit_code t r)
fit_free I8 r = record { none = refl }
fit_free U8 r = record { none = refl }
fit_free I16 r = record { none = refl }
fit_free U16 r = record { none = refl }
fit_free I32 r = record { none = refl }
fit_free U32 r = record { none = refl }

high_free : (from to signed : Bool) (r l : ℕ) → IsFree (high_code from to signed r l)
high_free true to signed r l = record { none = refl }
high_free false true true r l = record { none = refl }
high_free false true false r l = record { none = refl }
high_free false false signed r l = record { none = refl }

pub convert_free : (from to : IntType) (r l : ℕ) → IsFree (convert_code from to r l)
convert_free from to r l = both (fit_code to r) (high_code (is_wide from) (is_wide to) (is_signed from) r l) (fit_free to r) (high_free (is_wide from) (is_wide to) (is_signed from) r l)

pub zero_free : (test : Test) (wide : Bool) (r l : ℕ) → IsFree (zero_code test wide r l)
zero_free test true r l = record { none = refl }
zero_free test false r l = record { none = refl }

pub unary_free : (op : UnOp) (wide : Bool) (r l : ℕ) → IsFree (unary_code op wide r l)
unary_free un.Neg true r l = record { none = refl }
unary_free un.Neg false r l = record { none = refl }
unary_free un.Not true r l = record { none = refl }
unary_free un.Not false r l = record { none = refl }
unary_free un.IsZero wide r l = both (zero_code Eq wide r l) (truth_code r l) (zero_free Eq wide r l) (record { none = refl })

sum_free : (op : Op) (wide : Bool) (r : ℕ) → IsFree (sum_code op wide r)
sum_free op true r = record { none = refl }
sum_free op false r = record { none = refl }

bits_free : (op : Op) (wide : Bool) (r : ℕ) → IsFree (bits_code op wide r)
bits_free op true r = record { none = refl }
bits_free op false r = record { none = refl }

divisor_free : (wide : Bool) (r l : ℕ) → IsFree (divisor_code wide r l)
divisor_free true r l = record { none = refl }
divisor_free false r l = record { none = refl }

count_free : (wide : Bool) (r l : ℕ) → IsFree (count_code wide r l)
count_free true r l = record { none = refl }
count_free false r l = record { none = refl }

shift_free : (o : HelpOp) (t s : IntType) (r l : ℕ) → IsFree (shift_code o t s r l)
shift_free o t s r l = both (count_code (is_wide s) r l) _ (count_free (is_wide s) r l) (record { none = refl })

equal_free : (test : Test) (wide : Bool) (r l : ℕ) → IsFree (equal_code test wide r l)
equal_free test true r l = record { none = refl }
equal_free test false r l = record { none = refl }

order_free : (strict signed wide : Bool) (r l : ℕ) → IsFree (order_code strict signed wide r l)
order_free strict signed true r l = record { none = refl }
order_free true signed false r l = record { none = refl }
order_free false signed false r l = record { none = refl }

pub binary_free : (op : BinOp) (t s : IntType) (r l : ℕ) → IsFree (binary_code op t s r l)
binary_free bin.Add t s r l = both (sum_code Add (is_wide t) r) (fit_code t r) (sum_free Add (is_wide t) r) (fit_free t r)
binary_free bin.Sub t s r l = both (sum_code Sub (is_wide t) r) (fit_code t r) (sum_free Sub (is_wide t) r) (fit_free t r)
binary_free bin.Mul t s r l = record { none = refl }
binary_free bin.Div t s r l = both (divisor_code (is_wide t) r l) (product_code help.Div t r) (divisor_free (is_wide t) r l) (record { none = refl })
binary_free bin.Rem t s r l = both (divisor_code (is_wide t) r l) (product_code help.Rem t r) (divisor_free (is_wide t) r l) (record { none = refl })
binary_free bin.And t s r l = bits_free And (is_wide t) r
binary_free bin.Or t s r l = bits_free Or (is_wide t) r
binary_free bin.Xor t s r l = bits_free Xor (is_wide t) r
binary_free bin.Shl t s r l = shift_free help.Shl t s r l
binary_free bin.Shr t s r l = shift_free help.Shr t s r l
binary_free bin.Eq t s r l = equal_free Eq (is_wide t) r l
binary_free bin.Ne t s r l = equal_free Ne (is_wide t) r l
binary_free bin.Lt t s r l = order_free true (is_signed t) (is_wide t) r l
binary_free bin.Le t s r l = order_free false (is_signed t) (is_wide t) r l

scaled_free : (size r : ℕ) → IsFree (scaled_code size r)
scaled_free size r = either (size == 1) _ _ (record { none = refl }) (either (size == 2) _ _ (record { none = refl }) (either (size == 4) _ _ (record { none = refl }) (record { none = refl })))

pub offset_free : (size r : ℕ) → IsFree (offset_code size r)
offset_free size r = both (scaled_code size (r + 2)) _ (scaled_free size (r + 2)) (record { none = refl })

pub distance_free : (size r : ℕ) → IsFree (distance_code size r)
distance_free size r = before (Bin Sub r r (r + 2)) _ refl (either (size == 1) _ _ (record { none = refl }) (record { none = refl }))

bound_free : (wide : Bool) (bound r l : ℕ) → IsFree (bound_code wide bound r l)
bound_free true bound r l = either (bound == 4294967296) _ _ (record { none = refl }) (record { none = refl })
bound_free false bound r l = either (bound == 65536) _ _ (record { none = refl }) (record { none = refl })

pub element_free : (t : IntType) (count size r l : ℕ) → IsFree (element_code t count size r l)
element_free t count size r l = both (bound_code (is_wide t) (index_bound t count) r l) _ (bound_free (is_wide t) (index_bound t count) r l) (offset_free size r)

-- ---- places

load_free : (t : IntType) (d r : ℕ) → IsFree (load_code t d r)
load_free I8 d r = record { none = refl }
load_free U8 d r = record { none = refl }
load_free I16 d r = record { none = refl }
load_free U16 d r = record { none = refl }
load_free I32 d r = record { none = refl }
load_free U32 d r = record { none = refl }

peek_free : (t : IntType) (d r : ℕ) → IsFree (peek_code t d r)
peek_free I8 d r = record { none = refl }
peek_free U8 d r = record { none = refl }
peek_free I16 d r = record { none = refl }
peek_free U16 d r = record { none = refl }
peek_free I32 d r = record { none = refl }
peek_free U32 d r = record { none = refl }

take_free : (wide : Bool) (regs : Regs) (d : ℕ) → IsFree (take_code wide regs d)
take_free true regs d = record { none = refl }
take_free false regs d = record { none = refl }

keep_free : (wide : Bool) (regs : Regs) (v : ℕ) → IsFree (keep_code wide regs v)
keep_free true regs v = record { none = refl }
keep_free false regs v = record { none = refl }

pub fetch_free : (kind : Kind) (t : IntType) (d r : ℕ) → IsFree (fetch_code kind t d r)
fetch_free (InValues regs) t d r = take_free (is_wide t) regs d
fetch_free InFrame t d r = peek_free t d r
fetch_free InMemory t d r = load_free t d r

pub put_free : (kind : Kind) (t : IntType) (v r : ℕ) → IsFree (put_code kind t v r)
put_free (InValues regs) t v r = keep_free (is_wide t) regs v
put_free InFrame t v r = either (is_wide t) _ _ (record { none = refl }) (record { none = refl })
put_free InMemory t v r = either (is_wide t) _ _ (record { none = refl }) (record { none = refl })

pub address_free : (kind : Kind) (r : ℕ) → IsFree (address_code kind r)
address_free (InValues regs) r = record { none = refl }
address_free InFrame r = record { none = refl }
address_free InMemory r = record { none = refl }

pub local_free : (o : Option Spot) (r : ℕ) → IsFree (local_code o r)
local_free None r = record { none = refl }
local_free (Some (Values regs)) r = record { none = refl }
local_free (Some (Frame from)) r = record { none = refl }

regs_free : (wide : Bool) (regs : Regs) → IsFree (zero_regs_code wide regs)
regs_free true regs = record { none = refl }
regs_free false regs = record { none = refl }

pub zeros_free : (o : Option Spot) (ty : Ty) (size r l : ℕ) → IsFree (zero_local_code o ty size r l)
zeros_free None ty size r l = record { none = refl }
zeros_free (Some (Values regs)) ty size r l = regs_free (is_wide (number_of ty)) regs
zeros_free (Some (Frame from)) ty size r l = record { none = refl }

-- ---- cases

same_free : (wide : Bool) (r l : ℕ) → IsFree (same_code wide r l)
same_free true r l = record { none = refl }
same_free false r l = record { none = refl }

pub case_free : (t : IntType) (o : Option ℤ) (r l : ℕ) → IsFree (case_code t o r l)
case_free t None r l = record { none = refl }
case_free t (Some n) r l = either (int_eq (wrapped t n) n) _ _ (both (const_code t n (r + 2)) _ (const_free t n (r + 2)) (same_free (is_wide t) r l)) (record { none = refl })
