-- Numbers of a type: what is in its range, and what constants are computed to.
use Rattle.std.proofs.Common.{◌≡◌, ℕ, ◌-◌, ◌*◌, ◌/◌, ◌%◌, ◌^◌, ◌<◌, ◌≤◌, Bool, true, false, cond, List, [], ◌∷◌, Option, Some, None, Ok, ap, subst, ◌∙◌, refl, arith}
use Rattle.std.specs.Prelude.{⊤, ℤ, pos, negsuc, ◌-ℤ◌, ◌*ℤ◌, ◌≤ℤ◌, int_le, int_lt, nat_eq, nat_lt, if◌then◌else◌}
use Rattle.std.specs.Int.{int_wrap, w8}
use Rattle.std.specs.Int.RustNames.{FitsSigned}
use Rattle.std.proofs.lemmas.Int.{ints, SFits-int_wrap}
use Rattle.std.proofs.Math.Nat.{div-le_self}
use Rattle.std.proofs.lemmas.Bool.{lt-ltb}
use Rattle.std.proofs.lemmas.Bool.Decides.{nat_tests}
use Rattle.nm_base.specs.declared.pos.Pos.{Pos}
use Rattle.nm_base.specs.declared.int_type.IntType.{IntType}
use Rattle.nm_base.specs.declared.int_type.IntType.TheVariants.{I8, U8, I16, U16, I32, U32}
use Rattle.nm_base.specs.IntType.{least, greatest, signed_part, width, wrapped}
use Rattle.std.specs.Int.{int_rem_euclid}
use Rattle.std.specs.Option.{option_map}
use Rattle.std.specs.Ordering.{int_eq}
use Rattle.nesc_core.specs.Typing.{IsOf, binary_type}
use Rattle.nesc_conditions.specs.Literals.{digits_of, radix_of, quoted_value, between_quotes}
use Rattle.core_meaning.specs.Numbers.{truth, floor_div, sign, shift_left, shift_right, unless_zero, binary}
use Rattle.nesc_core.specs.declared.tree.BinOp.{BinOp}
use Rattle.nesc_core.specs.declared.tree.BinOp.TheVariants as bin_op
use Rattle.nesc_tree.specs.declared.tree.PreOp.{PreOp}
use Rattle.nesc_tree.specs.declared.tree.PreOp.TheVariants as pre
use Rattle.nesc_tree.specs.declared.tree.InOp.{InOp}
use Rattle.nesc_tree.specs.declared.tree.InOp.TheVariants as op
use Rattle.nesc_types.specs.Conversions.{promoted, common}
use Rattle.nesc_types.specs.Constant as constants
use Rattle.nesc_types.specs.Literals.{first_holding}
use Rattle.nesc_types.specs.Literals as literals
use Rattle.nesc_types.specs.Values.{Constant}
use Rattle.elab_laws.proofs.Lists.{by_test}
use Rattle.elab_laws.proofs.Steps.{Says, says, refuses}

-- ---- ranges

abbrev pub InRange : IntType → ℤ → Type 0
InRange t x = (least t ≤ℤ x) × (x ≤ℤ greatest t)

rest_low : (x : ℤ) (n : ℕ) → 0 < n → pos 0 ≤ℤ int_rem_euclid x (pos n)
rest_low (pos a) n h = omega (arith, ints)
rest_low (negsuc a) n h = omega (arith, ints)

rest_high : (x : ℤ) (n : ℕ) → 0 < n → int_rem_euclid x (pos n) ≤ℤ pos (n - 1)
rest_high (pos a) n h = omega (arith, ints)
rest_high (negsuc a) n h = omega (arith, ints)

abbrev IsSigned : ℤ → ℕ → Type 0
IsSigned y half = (negsuc (half - 1) ≤ℤ y) × (y ≤ℤ pos (half - 1))

by_half : (r : ℤ) (half : ℕ) (b : Bool) → 0 < half → int_lt r (pos half) ≡ b → pos 0 ≤ℤ r → r ≤ℤ pos (2 * half - 1) → IsSigned (cond b r (r -ℤ pos half -ℤ pos half)) half
by_half r half true positive less low high = (omega (arith, ints), grind (arith, ints))
by_half r half false positive more low high = (grind (arith, ints), omega (arith, ints))

signed_range : (x : ℤ) (half : ℕ) → 0 < half → IsSigned (signed_part (int_rem_euclid x (pos (2 * half))) (pos half)) half
signed_range x half h =
    let positive : 0 < 2 * half = omega arith in
    by_half _ half _ h refl (rest_low x (2 * half) positive) (rest_high x (2 * half) positive)

wrapped_range : (t : IntType) (x : ℤ) → InRange t (wrapped t x)
wrapped_range I8 x = signed_range x 128 (omega arith)
wrapped_range U8 x = (rest_low x 256 (omega arith), rest_high x 256 (omega arith))
wrapped_range I16 x = signed_range x 32768 (omega arith)
wrapped_range U16 x = (rest_low x 65536 (omega arith), rest_high x 65536 (omega arith))
wrapped_range I32 x = signed_range x 2147483648 (omega arith)
wrapped_range U32 x = (rest_low x 4294967296 (omega arith), rest_high x 4294967296 (omega arith))

pub range_of : (t : IntType) (x : ℤ) → IsOf t x → InRange t x
range_of t x e = subst (λ y. InRange t y) e (wrapped_range t x)

from_zero : (a half : ℕ) → a < half → signed_part (pos a) (pos half) ≡ pos a
from_zero a half lt = ap (λ b. if b then pos a else pos a -ℤ pos half -ℤ pos half) (lt-ltb a half lt)

from_half : (a half : ℕ) → half ≤ a → signed_part (pos a) (pos half) ≡ pos a -ℤ pos half -ℤ pos half
from_half a half le = ap (λ b. if b then pos a else pos a -ℤ pos half -ℤ pos half) (not_below a half le)
  where
    not_below : (x y : ℕ) → y ≤ x → nat_lt x y ≡ false
    not_below x y le = grind (arith, nat_tests)

-- a number in the range is congruent to no other one there
in_bounds : (t : IntType) (z : ℤ) → least t ≤ℤ z → z ≤ℤ greatest t → wrapped t z ≡ z
in_bounds I8 (pos a) from to =
    let h : a ≤ 127 = omega (arith, ints, to) in
    let e : a % 256 ≡ a = omega (arith, h) in
    ap (λ m. signed_part (pos m) (pos 128)) e ∙ from_zero a 128 (omega (arith, h))
in_bounds I8 (negsuc a) from to =
    let h : a ≤ 127 = omega (arith, ints, from) in
    let e : 256 - 1 - a % 256 ≡ 255 - a = omega (arith, h) in
    let g : pos (255 - a) -ℤ pos 128 -ℤ pos 128 ≡ negsuc a = omega (arith, ints, h) in
    ap (λ m. signed_part (pos m) (pos 128)) e ∙ from_half (255 - a) 128 (omega (arith, h)) ∙ g
in_bounds U8 (pos a) from to =
    let h : a ≤ 255 = omega (arith, ints, to) in
    let e : a % 256 ≡ a = omega (arith, h) in
    ap pos e
in_bounds U8 (negsuc a) from to = absurd (omega (arith, ints, from))
in_bounds I16 (pos a) from to =
    let h : a ≤ 32767 = omega (arith, ints, to) in
    let e : a % 65536 ≡ a = omega (arith, h) in
    ap (λ m. signed_part (pos m) (pos 32768)) e ∙ from_zero a 32768 (omega (arith, h))
in_bounds I16 (negsuc a) from to =
    let h : a ≤ 32767 = omega (arith, ints, from) in
    let e : 65536 - 1 - a % 65536 ≡ 65535 - a = omega (arith, h) in
    let g : pos (65535 - a) -ℤ pos 32768 -ℤ pos 32768 ≡ negsuc a = omega (arith, ints, h) in
    ap (λ m. signed_part (pos m) (pos 32768)) e ∙ from_half (65535 - a) 32768 (omega (arith, h)) ∙ g
in_bounds U16 (pos a) from to =
    let h : a ≤ 65535 = omega (arith, ints, to) in
    let e : a % 65536 ≡ a = omega (arith, h) in
    ap pos e
in_bounds U16 (negsuc a) from to = absurd (omega (arith, ints, from))
in_bounds I32 (pos a) from to =
    let h : a ≤ 2147483647 = omega (arith, ints, to) in
    let e : a % 4294967296 ≡ a = omega (arith, h) in
    ap (λ m. signed_part (pos m) (pos 2147483648)) e ∙ from_zero a 2147483648 (omega (arith, h))
in_bounds I32 (negsuc a) from to =
    let h : a ≤ 2147483647 = omega (arith, ints, from) in
    let e : 4294967296 - 1 - a % 4294967296 ≡ 4294967295 - a = omega (arith, h) in
    let g : pos (4294967295 - a) -ℤ pos 2147483648 -ℤ pos 2147483648 ≡ negsuc a = omega (arith, ints, h) in
    ap (λ m. signed_part (pos m) (pos 2147483648)) e ∙ from_half (4294967295 - a) 2147483648 (omega (arith, h)) ∙ g
in_bounds U32 (pos a) from to =
    let h : a ≤ 4294967295 = omega (arith, ints, to) in
    let e : a % 4294967296 ≡ a = omega (arith, h) in
    ap pos e
in_bounds U32 (negsuc a) from to = absurd (omega (arith, ints, from))

pub in_range : (t : IntType) (x : ℤ) → InRange t x → IsOf t x
in_range t x h = in_bounds t x h.0 h.1

pub wrapped_is : (t : IntType) (x : ℤ) → IsOf t (wrapped t x)
wrapped_is t x = in_range t (wrapped t x) (wrapped_range t x)

-- ---- what constants are computed to

pub zero_is : (t : IntType) → IsOf t (pos 0)
zero_is I8 = refl
zero_is U8 = refl
zero_is I16 = refl
zero_is U16 = refl
zero_is I32 = refl
zero_is U32 = refl

truth_is : (b : Bool) → IsOf I16 (truth b)
truth_is true = refl
truth_is false = refl

-- a promotion changes no number
promoted_is : (t : IntType) (x : ℤ) → IsOf t x → IsOf (promoted t) x
promoted_is I8 (pos a) e = let h = (range_of I8 (pos a) e).1 in in_range I16 (pos a) (omega (arith, ints), omega (arith, ints, h))
promoted_is I8 (negsuc a) e = let h = (range_of I8 (negsuc a) e).0 in in_range I16 (negsuc a) (omega (arith, ints, h), omega (arith, ints))
promoted_is U8 (pos a) e = let h = (range_of U8 (pos a) e).1 in in_range I16 (pos a) (omega (arith, ints), omega (arith, ints, h))
promoted_is U8 (negsuc a) e = let h = (range_of U8 (negsuc a) e).0 in absurd (omega (arith, ints, h))
promoted_is I16 x e = e
promoted_is U16 x e = e
promoted_is I32 x e = e
promoted_is U32 x e = e

-- a number moves nearer to 0 or to -1
nearer : (t : IntType) (x : ℤ) (m : ℕ) → IsOf t x → IsOf t (floor_div x m)
nearer t (pos a) m e = in_range t (pos (a / m)) (below t (a / m) a (div-le_self a m) (range_of t (pos a) e))
  where
    below : (t : IntType) (b a : ℕ) → b ≤ a → InRange t (pos a) → InRange t (pos b)
    below I8 b a le h = let l = h.1 in (omega (arith, ints), omega (arith, ints, l, le))
    below U8 b a le h = let l = h.1 in (omega (arith, ints), omega (arith, ints, l, le))
    below I16 b a le h = let l = h.1 in (omega (arith, ints), omega (arith, ints, l, le))
    below U16 b a le h = let l = h.1 in (omega (arith, ints), omega (arith, ints, l, le))
    below I32 b a le h = let l = h.1 in (omega (arith, ints), omega (arith, ints, l, le))
    below U32 b a le h = let l = h.1 in (omega (arith, ints), omega (arith, ints, l, le))
nearer t (negsuc a) m e = in_range t (negsuc (a / m)) (above t (a / m) a (div-le_self a m) (range_of t (negsuc a) e))
  where
    above : (t : IntType) (b a : ℕ) → b ≤ a → InRange t (negsuc a) → InRange t (negsuc b)
    above I8 b a le h = let l = h.0 in (omega (arith, ints, l, le), omega (arith, ints))
    above U8 b a le h = let l = h.0 in absurd (omega (arith, ints, l))
    above I16 b a le h = let l = h.0 in (omega (arith, ints, l, le), omega (arith, ints))
    above U16 b a le h = let l = h.0 in absurd (omega (arith, ints, l))
    above I32 b a le h = let l = h.0 in (omega (arith, ints, l, le), omega (arith, ints))
    above U32 b a le h = let l = h.0 in absurd (omega (arith, ints, l))

sign_is : (t : IntType) (x : ℤ) → IsOf t x → IsOf t (sign x)
sign_is t (pos a) e = zero_is t
sign_is t (negsuc a) e = minus_one t a (range_of t (negsuc a) e)
  where
    minus_one : (t : IntType) (a : ℕ) → InRange t (negsuc a) → IsOf t (negsuc 0)
    minus_one I8 a h = refl
    minus_one U8 a h = let l = h.0 in absurd (omega (arith, ints, l))
    minus_one I16 a h = refl
    minus_one U16 a h = let l = h.0 in absurd (omega (arith, ints, l))
    minus_one I32 a h = refl
    minus_one U32 a h = let l = h.0 in absurd (omega (arith, ints, l))

left_is : (t : IntType) (x y : ℤ) → IsOf t (shift_left t x y)
left_is t x (pos n) = by_test (IsOf t) (nat_lt n (width t)) (wrapped t (x *ℤ pos (2 ^ n))) (pos 0) (λ h. wrapped_is t _) (λ h. zero_is t)
left_is t x (negsuc n) = zero_is t

right_is : (t : IntType) (x y : ℤ) → IsOf t x → IsOf t (shift_right t x y)
right_is t x (pos n) e = by_test (IsOf t) (nat_lt n (width t)) (floor_div x (2 ^ n)) (sign x) (λ h. nearer t x (2 ^ n) e) (λ h. sign_is t x e)
right_is t x (negsuc n) e = sign_is t x e

abbrev MaybeOf : IntType → Option ℤ → Type 0
MaybeOf t None = ⊤
MaybeOf t (Some z) = IsOf t z

quotient_is : (t : IntType) (y z : ℤ) → MaybeOf t (unless_zero y (wrapped t z))
quotient_is t y z = by_test (MaybeOf t) (int_eq y (pos 0)) None (Some (wrapped t z)) (λ h. tt) (λ h. wrapped_is t z)

binary_is : (o : BinOp) (t : IntType) (x y : ℤ) → IsOf t x → MaybeOf (binary_type o t) (binary o t x y)
binary_is bin_op.Add t x y e = wrapped_is t _
binary_is bin_op.Sub t x y e = wrapped_is t _
binary_is bin_op.Mul t x y e = wrapped_is t _
binary_is bin_op.Div t x y e = quotient_is t y _
binary_is bin_op.Rem t x y e = quotient_is t y _
binary_is bin_op.And t x y e = wrapped_is t _
binary_is bin_op.Or t x y e = wrapped_is t _
binary_is bin_op.Xor t x y e = wrapped_is t _
binary_is bin_op.Shl t x y e = left_is t x y
binary_is bin_op.Shr t x y e = right_is t x y e
binary_is bin_op.Eq t x y e = truth_is _
binary_is bin_op.Ne t x y e = truth_is _
binary_is bin_op.Lt t x y e = truth_is _
binary_is bin_op.Le t x y e = truth_is _

abbrev pub IsConst : Constant → Type 0
IsConst c = IsOf c.0 c.1

unless_undefined_is : (whole : Pos) (evaluated : Bool) (t : IntType) (z : Option ℤ) → MaybeOf t z → Says (constants.unless_undefined whole evaluated t z) IsConst
unless_undefined_is whole evaluated t (Some z) h = says _ h
unless_undefined_is whole true t None h = refuses _
unless_undefined_is whole false t None h = says _ (zero_is t)

module _ (whole : Pos) (evaluated : Bool) (x y : Constant) (xs : IsConst x) (ys : IsConst y) where
  arithmetic_is : (o : BinOp) → binary_type o (common x.0 y.0) ≡ common x.0 y.0 → Says (constants.arithmetic whole evaluated o x y) IsConst
  arithmetic_is o same = unless_undefined_is whole evaluated _ _ (subst (λ t. MaybeOf t (constants.at_type o (common x.0 y.0) x.1 y.1)) same (binary_is o (common x.0 y.0) (wrapped (common x.0 y.0) x.1) (wrapped (common x.0 y.0) y.1) (wrapped_is (common x.0 y.0) x.1)))

  shifted_is : (o : BinOp) → binary_type o (promoted x.0) ≡ promoted x.0 → Says (constants.shifted whole evaluated o x y) IsConst
  shifted_is o same = unless_undefined_is whole evaluated _ _ (subst (λ t. MaybeOf t (binary o (promoted x.0) x.1 y.1)) same (binary_is o (promoted x.0) x.1 y.1 (promoted_is x.0 x.1 xs)))

compared_is : (whole : Pos) (evaluated : Bool) (o : BinOp) (x y : Constant) → binary_type o (common x.0 y.0) ≡ I16 → Says (constants.compared whole evaluated o x y) IsConst
compared_is whole evaluated o x y same = unless_undefined_is whole evaluated _ _ (subst (λ t. MaybeOf t (constants.at_type o (common x.0 y.0) x.1 y.1)) same (binary_is o (common x.0 y.0) (wrapped (common x.0 y.0) x.1) (wrapped (common x.0 y.0) y.1) (wrapped_is (common x.0 y.0) x.1)))

pub computed_is : (whole : Pos) (evaluated : Bool) (o : InOp) (x y : Constant) → IsConst x → IsConst y → Says (constants.computed whole evaluated o x y) IsConst
computed_is whole evaluated op.Mul x y h k = arithmetic_is whole evaluated x y h k bin_op.Mul refl
computed_is whole evaluated op.Div x y h k = arithmetic_is whole evaluated x y h k bin_op.Div refl
computed_is whole evaluated op.Rem x y h k = arithmetic_is whole evaluated x y h k bin_op.Rem refl
computed_is whole evaluated op.Add x y h k = arithmetic_is whole evaluated x y h k bin_op.Add refl
computed_is whole evaluated op.Sub x y h k = arithmetic_is whole evaluated x y h k bin_op.Sub refl
computed_is whole evaluated op.Shl x y h k = shifted_is whole evaluated x y h k bin_op.Shl refl
computed_is whole evaluated op.Shr x y h k = shifted_is whole evaluated x y h k bin_op.Shr refl
computed_is whole evaluated op.Lt x y h k = compared_is whole evaluated bin_op.Lt x y refl
computed_is whole evaluated op.Gt x y h k = compared_is whole evaluated bin_op.Lt y x refl
computed_is whole evaluated op.Le x y h k = compared_is whole evaluated bin_op.Le x y refl
computed_is whole evaluated op.Ge x y h k = compared_is whole evaluated bin_op.Le y x refl
computed_is whole evaluated op.Eq x y h k = compared_is whole evaluated bin_op.Eq x y refl
computed_is whole evaluated op.Ne x y h k = compared_is whole evaluated bin_op.Ne x y refl
computed_is whole evaluated op.And x y h k = arithmetic_is whole evaluated x y h k bin_op.And refl
computed_is whole evaluated op.Xor x y h k = arithmetic_is whole evaluated x y h k bin_op.Xor refl
computed_is whole evaluated op.Or x y h k = arithmetic_is whole evaluated x y h k bin_op.Or refl
computed_is whole evaluated op.AndAnd x y h k = says _ (truth_is _)
computed_is whole evaluated op.OrOr x y h k = says _ (truth_is _)

pub prefixed_is : (whole : Pos) (o : PreOp) (x : Constant) → IsConst x → Says (constants.prefixed whole o (Ok x)) IsConst
prefixed_is whole pre.Plus x h = says _ (promoted_is x.0 x.1 h)
prefixed_is whole pre.Neg x h = says _ (wrapped_is (promoted x.0) (pos 0 -ℤ x.1))
prefixed_is whole pre.Not x h = says _ (wrapped_is (promoted x.0) (negsuc 0 -ℤ x.1))
prefixed_is whole pre.IsZero x h = says _ (truth_is _)
prefixed_is whole pre.Inc x h = refuses _
prefixed_is whole pre.Dec x h = refuses _
prefixed_is whole pre.Addr x h = refuses _
prefixed_is whole pre.Deref x h = refuses _

pub chosen_is : (x y z : Constant) → IsConst (constants.chosen x y z)
chosen_is x y z = wrapped_is (common y.0 z.0) (constants.one_of (constants.is_true x) y.1 z.1)

pub converted_is : (at : Pos) (t : Option IntType) (x : Constant) → Says (constants.converted at t x) IsConst
converted_is at None x = refuses _
converted_is at (Some t) x = says _ (wrapped_is t x.1)

-- ---- literals

at_most_greatest : (t : IntType) (n : ℕ) → int_le (pos n) (greatest t) ≡ true → IsOf t (pos n)
at_most_greatest I8 n e = in_range I8 (pos n) (omega (arith, ints), grind (arith, nat_tests))
at_most_greatest U8 n e = in_range U8 (pos n) (omega (arith, ints), grind (arith, nat_tests))
at_most_greatest I16 n e = in_range I16 (pos n) (omega (arith, ints), grind (arith, nat_tests))
at_most_greatest U16 n e = in_range U16 (pos n) (omega (arith, ints), grind (arith, nat_tests))
at_most_greatest I32 n e = in_range I32 (pos n) (omega (arith, ints), grind (arith, nat_tests))
at_most_greatest U32 n e = in_range U32 (pos n) (omega (arith, ints), grind (arith, nat_tests))

pub first_holding_is : (n : ℕ) (ts : List IntType) (t : IntType) → first_holding n ts ≡ Some t → IsOf t (pos n)
first_holding_is n [] t e = absurd cc
first_holding_is n (u ∷ ts) t e = by_first (int_le (pos n) (greatest u)) refl (first_holding_is n ts t) e
  where
    by_first : (b : Bool) → int_le (pos n) (greatest u) ≡ b → (first_holding n ts ≡ Some t → IsOf t (pos n)) → (if b then Some u else first_holding n ts) ≡ Some t → IsOf t (pos n)
    by_first true q f e = let s : u ≡ t = cc in subst (λ v. IsOf v (pos n)) s (at_most_greatest u n q)
    by_first false q f e = f e

abbrev pub MaybeConst : Option Constant → Type 0
MaybeConst None = ⊤
MaybeConst (Some c) = IsConst c

typed_is : (n : ℕ) (o : Option IntType) → ((t : IntType) → o ≡ Some t → IsOf t (pos n)) → MaybeConst (literals.typed n o)
typed_is n None h = tt
typed_is n (Some t) h = h t refl

of_types_is : (o : Option ℕ) (ts : List IntType) → MaybeConst (literals.of_types o ts)
of_types_is None ts = tt
of_types_is (Some n) ts = typed_is n (first_holding n ts) (first_holding_is n ts)

pub number_is : (text : List ℕ) → MaybeConst (literals.number text)
number_is text =
    of_types_is (literals.short (digits_of (radix_of text).0 (radix_of text).1)) (literals.candidates (nat_eq (radix_of text).0 10) (literals.is_unsigned text) (literals.is_long text))

byte_is : (z : ℤ) → FitsSigned w8 z → InRange I16 z
byte_is (pos a) h = (omega (arith, ints), omega (arith, ints, h))
byte_is (negsuc a) h = (omega (arith, ints, h), omega (arith, ints))

pub character_is : (text : List ℕ) → MaybeConst (literals.character text)
character_is text = signed (quoted_value (between_quotes text))
  where
    signed : (o : Option ℕ) → MaybeConst (option_map (λ x. (I16, x)) (option_map (λ n. int_wrap w8 (pos n)) o))
    signed None = tt
    signed (Some n) = in_range I16 (int_wrap w8 (pos n)) (byte_is (int_wrap w8 (pos n)) (SFits-int_wrap w8 (pos n)))

pub maybe_const : (o : Option Constant) (c : Constant) → MaybeConst o → o ≡ Some c → IsConst c
maybe_const None c h e = absurd cc
maybe_const (Some d) c h e = let s : d ≡ c = cc in subst IsConst s h
