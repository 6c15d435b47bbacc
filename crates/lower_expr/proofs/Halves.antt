-- The halves of what operators on bits give, and tests of numbers by their halves.
use Rattle.std.proofs.Common.{◌≡◌, ℕ, ◌+◌, ◌-◌, ◌/◌, ◌%◌, ◌^◌, ◌<◌, ◌≤◌, Bool, true, false, refl, ap, sym, ◌∙◌, arith}
use Rattle.std.specs.Prelude.{ℤ, pos, negsuc, ◌-ℤ◌, ◌≤ℤ◌, int_lt, bit_and, bit_or, bit_xor, ◌==◌}
use Rattle.std.specs.Int.{int_rem_euclid}
use Rattle.std.specs.Int.Bits.{xor_add_and, xor_self}
use Rattle.std.specs.Ordering.{int_eq}
use Rattle.std.proofs.lemmas.Int.{ints}
use Rattle.std.proofs.lemmas.Nat.{and_le_l, and_le_r, and_mask, and_mod, and_shr, or_mod, or_shr, or_of_32, xor_mod, xor_shr, xor_of_32, le_or_l, le_or_r}
use Rattle.std.proofs.lemmas.Bool.Decides.{Decides-eqb, Decides-int_eq, same_from_decides}
use Rattle.nm_base.specs.declared.int_type.IntType.{IntType}
use Rattle.nm_base.specs.declared.int_type.IntType.TheVariants.{I8, U8, I16, U16, I32, U32}
use Rattle.nm_base.specs.IntType.{wrapped, signed_part}
use Rattle.core_meaning.specs.Numbers.{residue}
use Rattle.lower_expr.specs.Held.{low, high}
use Rattle.lower_expr.proofs.Numbers.{Is16Bits, Is32Bits, low_difference, low_of_rest, low_small, low_wrapped, low_wrapped_wide, in_range, not_below, number_of_low, range_of, rest_difference, rest_small, rest_wrapped}

-- ---- the halves of a number of 32 bits

abbrev HalvesAre : IntType → ℕ → Type 0
HalvesAre t m = (low (wrapped t (pos m)) ≡ m % 65536) × (high (wrapped t (pos m)) ≡ m / 65536)

wide_halves : (t : IntType) → Is32Bits t → (m : ℕ) → m < 4294967296 → HalvesAre t m
wide_halves t ok m lt =
    let small : (m % 4294967296) / 65536 ≡ m / 65536 = omega (arith, lt) in
    (low_wrapped_wide t ok (pos m), ap (λ k. k / 65536) (rest_wrapped t ok (pos m)) ∙ small)

-- an operation on bits is done half by half
abbrev AreBits : (ℕ → ℕ → ℕ) → IntType → ℤ → ℤ → Type 0
AreBits f t x y =
    (f (low x) (low y) ≡ low (wrapped t (pos (f (residue 32 x) (residue 32 y)))))
    × (f (high x) (high y) ≡ high (wrapped t (pos (f (residue 32 x) (residue 32 y)))))

bits_halves : (f : ℕ → ℕ → ℕ) → ((a b k : ℕ) → f a b % 2 ^ k ≡ f (a % 2 ^ k) (b % 2 ^ k)) → ((a b k : ℕ) → f a b / 2 ^ k ≡ f (a / 2 ^ k) (b / 2 ^ k)) →
    (t : IntType) → Is32Bits t → (x y : ℤ) → f (residue 32 x) (residue 32 y) < 4294967296 → AreBits f t x y
bits_halves f by_mod by_div t ok x y lt =
    let a : ℕ = residue 32 x in
    let b : ℕ = residue 32 y in
    let h = wide_halves t ok (f a b) lt in
    (ap (λ u. f u (low y)) (low_of_rest x) ∙ ap (f (a % 65536)) (low_of_rest y) ∙ sym (by_mod a b 16) ∙ sym h.0, sym (by_div a b 16) ∙ sym h.1)

pub and_halves : (t : IntType) → Is32Bits t → (x y : ℤ) → AreBits bit_and t x y
and_halves t ok x y = let a = and_le_l (residue 32 x) (residue 32 y) in let b = rest_small x in bits_halves bit_and and_mod and_shr t ok x y (omega (arith, a, b))

pub or_halves : (t : IntType) → Is32Bits t → (x y : ℤ) → AreBits bit_or t x y
or_halves t ok x y = bits_halves bit_or or_mod or_shr t ok x y (or_of_32 (residue 32 x) (residue 32 y) (rest_small x) (rest_small y))

pub xor_halves : (t : IntType) → Is32Bits t → (x y : ℤ) → AreBits bit_xor t x y
xor_halves t ok x y = bits_halves bit_xor xor_mod xor_shr t ok x y (xor_of_32 (residue 32 x) (residue 32 y) (rest_small x) (rest_small y))

-- ---- all bits turned

pub xor_ones : (a : ℕ) → a < 65536 → bit_xor a 65535 ≡ 65535 - a
xor_ones a lt =
    let sum = xor_add_and a 65535 in
    let both : bit_and a 65535 ≡ a % 65536 = and_mask a 16 in
    omega (arith, sum, both, lt)

pub not_low : (t : IntType) → Is16Bits t → (z : ℤ) → bit_xor (low z) 65535 ≡ low (wrapped t (negsuc 0 -ℤ z))
not_low t ok z =
    let lt = low_small z in
    let turned : 65535 - low z ≡ (65535 + (65536 - low z)) % 65536 = omega (arith, lt) in
    xor_ones (low z) lt ∙ turned ∙ sym (low_difference (negsuc 0) z) ∙ sym (low_wrapped t ok (negsuc 0 -ℤ z))

pub wide_not_low : (t : IntType) → Is32Bits t → (z : ℤ) → bit_xor (low z) 65535 ≡ low (wrapped t (negsuc 0 -ℤ z))
wide_not_low t ok z =
    let lt = low_small z in
    let turned : 65535 - low z ≡ (65535 + (65536 - low z)) % 65536 = omega (arith, lt) in
    xor_ones (low z) lt ∙ turned ∙ sym (low_difference (negsuc 0) z) ∙ sym (low_wrapped_wide t ok (negsuc 0 -ℤ z))

pub wide_not_high : (t : IntType) → Is32Bits t → (z : ℤ) → bit_xor (high z) 65535 ≡ high (wrapped t (negsuc 0 -ℤ z))
wide_not_high t ok z =
    let lt = rest_small z in
    let few : residue 32 z / 65536 < 65536 = omega (arith, lt) in
    let turned : 65535 - residue 32 z / 65536 ≡ ((4294967295 + (4294967296 - residue 32 z)) % 4294967296) / 65536 = omega (arith, lt) in
    xor_ones (high z) few ∙ turned ∙ ap (λ m. m / 65536) (sym (rest_difference (negsuc 0) z) ∙ sym (rest_wrapped t ok (negsuc 0 -ℤ z)))

-- ---- equality by halves

rest_again : (z : ℤ) → int_rem_euclid (pos (residue 32 z)) (pos 4294967296) ≡ int_rem_euclid z (pos 4294967296)
rest_again (pos a) = ap pos (omega arith)
rest_again (negsuc a) = ap pos (omega arith)

pub number_of_rest : (t : IntType) → Is32Bits t → (z : ℤ) → wrapped t z ≡ z → wrapped t (pos (residue 32 z)) ≡ z
number_of_rest I32 ok z e = ap (λ m. signed_part m (pos 2147483648)) (rest_again z) ∙ e
number_of_rest U32 ok z e = rest_again z ∙ e
number_of_rest I8 ok z e = absurd ok
number_of_rest U8 ok z e = absurd ok
number_of_rest I16 ok z e = absurd ok
number_of_rest U16 ok z e = absurd ok

none_or : (a b : ℕ) → bit_or a b ≡ 0 → (a ≡ 0) × (b ≡ 0)
none_or a b e = let l = le_or_l a b in let r = le_or_r a b in (omega (arith, l, e), omega (arith, r, e))

none_xor : (a b : ℕ) → bit_xor a b ≡ 0 → a ≡ b
none_xor a b e =
    let sum = xor_add_and a b in
    let l = and_le_l a b in
    let r = and_le_r a b in
    omega (arith, sum, l, r, e)

same_halves : (t : IntType) → Is32Bits t → (x y : ℤ) → wrapped t x ≡ x → wrapped t y ≡ y → low x ≡ low y → high x ≡ high y → x ≡ y
same_halves t ok x y ex ey l h =
    let lx = low_of_rest x in
    let ly = low_of_rest y in
    let same : residue 32 x ≡ residue 32 y = omega (arith, l, h, lx, ly) in
    sym (number_of_rest t ok x ex) ∙ ap (λ m. wrapped t (pos m)) same ∙ number_of_rest t ok y ey

abbrev pub differing : ℤ → ℤ → ℕ
differing x y = bit_or (bit_xor (low x) (low y)) (bit_xor (high x) (high y))

no_difference : (x y : ℤ) → x ≡ y → differing x y ≡ 0
no_difference x y e = ap (λ u. differing x u) (sym e) ∙ ap (λ m. bit_or m (bit_xor (high x) (high x))) (xor_self (low x)) ∙ xor_self (high x)

pub equal_halves : (t : IntType) → Is32Bits t → (x y : ℤ) → wrapped t x ≡ x → wrapped t y ≡ y → (differing x y == 0) ≡ int_eq x y
equal_halves t ok x y ex ey =
    let d = Decides-eqb (differing x y) 0 in
    same_from_decides (differing x y == 0) (int_eq x y)
    ((λ e. let n = none_or _ _ (d.0 e) in same_halves t ok x y ex ey (none_xor (low x) (low y) n.0) (none_xor (high x) (high y) n.1)), (λ e. d.1 (no_difference x y e)))
    (Decides-int_eq x y)

zero_number : (t : IntType) → Is32Bits t → wrapped t (pos 0) ≡ pos 0
zero_number I32 ok = refl
zero_number U32 ok = refl
zero_number I8 ok = absurd ok
zero_number U8 ok = absurd ok
zero_number I16 ok = absurd ok
zero_number U16 ok = absurd ok

pub zero_halves : (t : IntType) → Is32Bits t → (x : ℤ) → wrapped t x ≡ x → (bit_or (low x) (high x) == 0) ≡ int_eq x (pos 0)
zero_halves t ok x ex =
    let d = Decides-eqb (bit_or (low x) (high x)) 0 in
    same_from_decides (bit_or (low x) (high x) == 0) (int_eq x (pos 0))
    ((λ e. let n = none_or _ _ (d.0 e) in same_halves t ok x (pos 0) ex (zero_number t ok) n.0 n.1), (λ e. d.1 (ap (λ u. bit_or (low u) (high u)) e)))
    (Decides-int_eq x (pos 0))

-- ---- the high half of a number that may be negative

abbrev pub IsShortSigned : IntType → Type 0
IsShortSigned I8 = Unit {0}
IsShortSigned I16 = Unit {0}
IsShortSigned _ = ⊥

short_bounds : (t : IntType) → IsShortSigned t → (z : ℤ) → wrapped t z ≡ z → (negsuc 32767 ≤ℤ z) × (z ≤ℤ pos 32767)
short_bounds I8 ok z e = let h = range_of I8 z e in let a = h.0 in let b = h.1 in (omega (arith, ints, a), omega (arith, ints, b))
short_bounds I16 ok z e = range_of I16 z e
short_bounds U8 ok z e = absurd ok
short_bounds U16 ok z e = absurd ok
short_bounds I32 ok z e = absurd ok
short_bounds U32 ok z e = absurd ok

pub signed_word : (t : IntType) → IsShortSigned t → (z : ℤ) → wrapped t z ≡ z → wrapped I16 (pos (low z)) ≡ z
signed_word t ok z e = let h = short_bounds t ok z e in number_of_low I16 tt z (in_range I16 z h.0 h.1)

-- 0 or 65,535
abbrev pub sign_half : Bool → ℕ
sign_half true = 65535
sign_half false = 0

pub high_of_sign : (t : IntType) → IsShortSigned t → (z : ℤ) → wrapped t z ≡ z → high z ≡ sign_half (int_lt z (pos 0))
high_of_sign t ok (pos a) e =
    let h = (short_bounds t ok (pos a) e).1 in
    let few : a ≤ 32767 = omega (arith, ints, h) in
    let none : high (pos a) ≡ 0 = omega (arith, few) in
    none ∙ ap sign_half (sym (not_below a 0 (omega arith)))
high_of_sign t ok (negsuc a) e =
    let h = (short_bounds t ok (negsuc a) e).0 in
    let few : a ≤ 32767 = omega (arith, ints, h) in
    let ones : high (negsuc a) ≡ 65535 = omega (arith, few) in
    ones
