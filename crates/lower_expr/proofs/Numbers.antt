-- The halves of numbers, and of what operators give.
use Rattle.std.proofs.Common.{◌⊎◌, inl, inr, ⊎_elim, ◌≡◌, ℕ, ◌+◌, ◌-◌, ◌*◌, ◌/◌, ◌%◌, ◌<◌, ◌≤◌, Bool, true, false, refl, ap, sym, subst, ◌∙◌, arith}
use Rattle.std.specs.Prelude.{ℤ, pos, negsuc, ◌+ℤ◌, ◌-ℤ◌, ◌*ℤ◌, ◌≤ℤ◌}
use Rattle.std.specs.Prelude.{nat_lt, if◌then◌else◌, bit_and, bit_or, bit_xor}
use Rattle.std.proofs.lemmas.Nat.{and_le_l, or_of_16, xor_of_16}
use Rattle.nm_base.specs.Lists.{number_of}
use Rattle.std.proofs.lemmas.Int.{ints}
use Rattle.std.specs.Ordering.{int_eq}
use Rattle.std.specs.Prelude.{int_lt, nat_le, not, ◌==◌}
use Rattle.std.proofs.lemmas.Bool.{lt-ltb, ltb-true}
use Rattle.std.proofs.lemmas.Bool.Decides.{Decides-eqb, Decides-int_eq, same_from_decides}
use Rattle.std.proofs.lemmas.Bool.Decides.{nat_tests}
use Rattle.nm_base.specs.declared.int_type.IntType.{IntType}
use Rattle.nm_base.specs.declared.int_type.IntType.TheVariants.{I8, U8, I16, U16, I32, U32}
use Rattle.nm_base.specs.IntType.{wrapped, signed_part, least, greatest}
use Rattle.lower_expr.proofs.Congruence.{wrapped_meant}
use Rattle.mid_code.specs.Help.{is_wide}
use Rattle.core_meaning.specs.Numbers.{residue}
use Rattle.lower_expr.specs.Held.{low, high}

-- a number by its residue modulo 65,536, and by that modulo 2 ^ 32
abbrev Is16 : ℤ → ℕ → ℤ → Type 0
Is16 z r k = z ≡ pos r +ℤ k *ℤ pos 65536

abbrev Is32 : ℤ → ℕ → ℤ → Type 0
Is32 z r k = z ≡ pos r +ℤ k *ℤ pos 4294967296

pub unique16 : (z : ℤ) (r : ℕ) (k : ℤ) → r < 65536 → Is16 z r k → low z ≡ r
unique16 (pos a) r (pos k) lt e = omega (arith, ints, e)
unique16 (pos a) r (negsuc k) lt e = omega (arith, ints, e)
unique16 (negsuc a) r (pos k) lt e = omega (arith, ints, e)
unique16 (negsuc a) r (negsuc k) lt e = omega (arith, ints, e)

pub low_small : (z : ℤ) → low z < 65536
low_small (pos a) = omega arith
low_small (negsuc a) = omega arith

pub low_is : (z : ℤ) → (k : ℤ) × Is16 z (low z) k
low_is (pos a) = (pos (a / 65536), ap pos (omega arith))
low_is (negsuc a) = (negsuc (a / 65536), omega (arith, ints))

pub unique32 : (z : ℤ) (r : ℕ) (k : ℤ) → r < 4294967296 → Is32 z r k → residue 32 z ≡ r
unique32 (pos a) r (pos k) lt e = omega (arith, ints, e)
unique32 (pos a) r (negsuc k) lt e = omega (arith, ints, e)
unique32 (negsuc a) r (pos k) lt e = omega (arith, ints, e)
unique32 (negsuc a) r (negsuc k) lt e = omega (arith, ints, e)

pub rest_small : (z : ℤ) → residue 32 z < 4294967296
rest_small (pos a) = omega arith
rest_small (negsuc a) = omega arith

pub rest_is : (z : ℤ) → (k : ℤ) × Is32 z (residue 32 z) k
rest_is (pos a) = (pos (a / 4294967296), ap pos (omega arith))
rest_is (negsuc a) = (negsuc (a / 4294967296), omega (arith, ints))

-- ---- sums and differences

pub low_sum : (x y : ℤ) → low (x +ℤ y) ≡ (low x + low y) % 65536
low_sum x y =
    let a = low_is x in
    let b = low_is y in
    let ea = a.1 in
    let eb = b.1 in
    unique16 (x +ℤ y) ((low x + low y) % 65536) (a.0 +ℤ b.0 +ℤ pos ((low x + low y) / 65536)) (omega arith) (omega (arith, ints, ea, eb))

pub low_difference : (x y : ℤ) → low (x -ℤ y) ≡ (low x + (65536 - low y)) % 65536
low_difference x y =
    let a = low_is x in
    let b = low_is y in
    let ea = a.1 in
    let eb = b.1 in
    let s = low_small y in
    unique16 (x -ℤ y) ((low x + (65536 - low y)) % 65536) (a.0 -ℤ b.0 +ℤ pos ((low x + (65536 - low y)) / 65536) -ℤ pos 1) (omega arith) (omega (arith, ints, ea, eb, s))

-- ---- what is wrapped at 16 bits keeps its low half

abbrev pub Is16Bits : IntType → Type 0
Is16Bits I16 = Unit {0}
Is16Bits U16 = Unit {0}
Is16Bits _ = ⊥

congruent16 : (x y k : ℤ) → x ≡ y +ℤ k *ℤ pos 65536 → low y ≡ low x
congruent16 x y k e =
    let a = low_is x in
    let ea = a.1 in
    unique16 y (low x) (a.0 -ℤ k) (low_small x) (omega (arith, ints, e, ea))

pub low_wrapped : (t : IntType) → Is16Bits t → (z : ℤ) → low (wrapped t z) ≡ low z
low_wrapped I8 ok z = absurd ok
low_wrapped U8 ok z = absurd ok
low_wrapped I16 ok z = let h = (wrapped_meant I16 z).congruent in congruent16 z (wrapped I16 z) h.0 h.1
low_wrapped U16 ok z = let h = (wrapped_meant U16 z).congruent in congruent16 z (wrapped U16 z) h.0 h.1
low_wrapped I32 ok z = absurd ok
low_wrapped U32 ok z = absurd ok

-- ---- a number of a type is what it wraps to

pub word_number : (x : ℕ) → x < 65536 → wrapped U16 (pos x) ≡ pos x
word_number x lt = ap pos (omega arith)

pub low_word : (x : ℕ) → x < 65536 → x ≡ low (pos x)
low_word x lt = omega arith

pub not_below : (x y : ℕ) → y ≤ x → nat_lt x y ≡ false
not_below x y le = grind (arith, nat_tests)

pub from_zero : (a half : ℕ) → a < half → signed_part (pos a) (pos half) ≡ pos a
from_zero a half lt = ap (λ b. if b then pos a else pos a -ℤ pos half -ℤ pos half) (lt-ltb a half lt)

pub from_half : (a half : ℕ) → half ≤ a → signed_part (pos a) (pos half) ≡ pos a -ℤ pos half -ℤ pos half
from_half a half le = ap (λ b. if b then pos a else pos a -ℤ pos half -ℤ pos half) (not_below a half le)

-- the numbers of a type
pub in_range : (t : IntType) (z : ℤ) → least t ≤ℤ z → z ≤ℤ greatest t → wrapped t z ≡ z
in_range I8 (pos a) from to =
    let h : a ≤ 127 = omega (arith, ints, to) in
    let e : a % 256 ≡ a = omega (arith, h) in
    ap (λ m. signed_part (pos m) (pos 128)) e ∙ from_zero a 128 (omega (arith, h))
in_range I8 (negsuc a) from to =
    let h : a ≤ 127 = omega (arith, ints, from) in
    let e : 256 - 1 - a % 256 ≡ 255 - a = omega (arith, h) in
    let g : pos (255 - a) -ℤ pos 128 -ℤ pos 128 ≡ negsuc a = omega (arith, ints, h) in
    ap (λ m. signed_part (pos m) (pos 128)) e ∙ from_half (255 - a) 128 (omega (arith, h)) ∙ g
in_range U8 (pos a) from to =
    let h : a ≤ 255 = omega (arith, ints, to) in
    let e : a % 256 ≡ a = omega (arith, h) in
    ap pos e
in_range U8 (negsuc a) from to = absurd (omega (arith, ints, from))
in_range I16 (pos a) from to =
    let h : a ≤ 32767 = omega (arith, ints, to) in
    let e : a % 65536 ≡ a = omega (arith, h) in
    ap (λ m. signed_part (pos m) (pos 32768)) e ∙ from_zero a 32768 (omega (arith, h))
in_range I16 (negsuc a) from to =
    let h : a ≤ 32767 = omega (arith, ints, from) in
    let e : 65536 - 1 - a % 65536 ≡ 65535 - a = omega (arith, h) in
    let g : pos (65535 - a) -ℤ pos 32768 -ℤ pos 32768 ≡ negsuc a = omega (arith, ints, h) in
    ap (λ m. signed_part (pos m) (pos 32768)) e ∙ from_half (65535 - a) 32768 (omega (arith, h)) ∙ g
in_range U16 (pos a) from to =
    let h : a ≤ 65535 = omega (arith, ints, to) in
    let e : a % 65536 ≡ a = omega (arith, h) in
    ap pos e
in_range U16 (negsuc a) from to = absurd (omega (arith, ints, from))
in_range I32 (pos a) from to =
    let h : a ≤ 2147483647 = omega (arith, ints, to) in
    let e : a % 4294967296 ≡ a = omega (arith, h) in
    ap (λ m. signed_part (pos m) (pos 2147483648)) e ∙ from_zero a 2147483648 (omega (arith, h))
in_range I32 (negsuc a) from to =
    let h : a ≤ 2147483647 = omega (arith, ints, from) in
    let e : 4294967296 - 1 - a % 4294967296 ≡ 4294967295 - a = omega (arith, h) in
    let g : pos (4294967295 - a) -ℤ pos 2147483648 -ℤ pos 2147483648 ≡ negsuc a = omega (arith, ints, h) in
    ap (λ m. signed_part (pos m) (pos 2147483648)) e ∙ from_half (4294967295 - a) 2147483648 (omega (arith, h)) ∙ g
in_range U32 (pos a) from to =
    let h : a ≤ 4294967295 = omega (arith, ints, to) in
    let e : a % 4294967296 ≡ a = omega (arith, h) in
    ap pos e
in_range U32 (negsuc a) from to = absurd (omega (arith, ints, from))

pub wrapped_again : (t : IntType) (z : ℤ) → wrapped t (wrapped t z) ≡ wrapped t z
wrapped_again t z = let h = (wrapped_meant t z).range in in_range t (wrapped t z) h.0 h.1

pub low_byte : (x : ℕ) → x % 256 ≡ low (wrapped U8 (pos x))
low_byte x = omega arith

pub byte_of_low : (z : ℤ) → low z % 256 ≡ residue 8 z
byte_of_low (pos a) = omega arith
byte_of_low (negsuc a) = omega arith

-- ---- a number of a type by its low half

pub range_of : (t : IntType) (z : ℤ) → wrapped t z ≡ z → (least t ≤ℤ z) × (z ≤ℤ greatest t)
range_of t z e = subst (λ u. (least t ≤ℤ u) × (u ≤ℤ greatest t)) e (wrapped_meant t z).range

pub number_of_low : (t : IntType) → Is16Bits t → (z : ℤ) → wrapped t z ≡ z → wrapped t (pos (low z)) ≡ z
number_of_low I16 ok (pos a) e =
    let to = (range_of I16 (pos a) e).1 in
    let h : a ≤ 32767 = omega (arith, ints, to) in
    let m : a % 65536 ≡ a = omega (arith, h) in
    ap (λ k. wrapped I16 (pos k)) m ∙ e
number_of_low I16 ok (negsuc a) e =
    let from = (range_of I16 (negsuc a) e).0 in
    let h : a ≤ 32767 = omega (arith, ints, from) in
    let m : (65536 - 1 - a % 65536) % 65536 ≡ 65535 - a = omega (arith, h) in
    let g : pos (65535 - a) -ℤ pos 32768 -ℤ pos 32768 ≡ negsuc a = omega (arith, ints, h) in
    ap (λ k. signed_part (pos k) (pos 32768)) m ∙ from_half (65535 - a) 32768 (omega (arith, h)) ∙ g
number_of_low U16 ok (pos a) e =
    let to = (range_of U16 (pos a) e).1 in
    let h : a ≤ 65535 = omega (arith, ints, to) in
    let m : a % 65536 ≡ a = omega (arith, h) in
    ap (λ k. wrapped U16 (pos k)) m ∙ e
number_of_low U16 ok (negsuc a) e = let from = (range_of U16 (negsuc a) e).0 in absurd (omega (arith, ints, from))
number_of_low I8 ok z e = absurd ok
number_of_low U8 ok z e = absurd ok
number_of_low I32 ok z e = absurd ok
number_of_low U32 ok z e = absurd ok

pub equal_low : (t : IntType) → Is16Bits t → (x y : ℤ) → wrapped t x ≡ x → wrapped t y ≡ y → (low x == low y) ≡ int_eq x y
equal_low t ok x y ex ey =
    let d = Decides-eqb (low x) (low y) in
    same_from_decides (low x == low y) (int_eq x y)
    ((λ e. sym (number_of_low t ok x ex) ∙ ap (λ k. wrapped t (pos k)) (d.0 e) ∙ number_of_low t ok y ey), (λ e. d.1 (ap low e)))
    (Decides-int_eq x y)

narrow_bounds : (t : IntType) → is_wide t ≡ false → (z : ℤ) → wrapped t z ≡ z → (negsuc 32767 ≤ℤ z) × (z ≤ℤ pos 65535)
narrow_bounds I8 n z e = let h = range_of I8 z e in let a = h.0 in let b = h.1 in (omega (arith, ints, a), omega (arith, ints, b))
narrow_bounds U8 n z e = let h = range_of U8 z e in let a = h.0 in let b = h.1 in (omega (arith, ints, a), omega (arith, ints, b))
narrow_bounds I16 n z e = let h = range_of I16 z e in let a = h.0 in let b = h.1 in (omega (arith, ints, a), omega (arith, ints, b))
narrow_bounds U16 n z e = let h = range_of U16 z e in let a = h.0 in let b = h.1 in (omega (arith, ints, a), omega (arith, ints, b))
narrow_bounds I32 n z e = absurd (cc)
narrow_bounds U32 n z e = absurd (cc)

none_low : (z : ℤ) → negsuc 32767 ≤ℤ z → z ≤ℤ pos 65535 → low z ≡ 0 → z ≡ pos 0
none_low (pos a) from to e =
    let h : a ≤ 65535 = omega (arith, ints, to) in
    ap pos (let g : a ≡ 0 = omega (arith, h, e) in g)
none_low (negsuc a) from to e =
    let h : a ≤ 32767 = omega (arith, ints, from) in
    absurd (omega (arith, h, e))

pub zero_low : (t : IntType) → is_wide t ≡ false → (z : ℤ) → wrapped t z ≡ z → (low z == 0) ≡ int_eq z (pos 0)
zero_low t narrow z e =
    let d = Decides-eqb (low z) 0 in
    let b = narrow_bounds t narrow z e in
    same_from_decides (low z == 0) (int_eq z (pos 0))
    ((λ h. none_low z b.0 b.1 (d.0 h)), (λ h. d.1 (ap low h)))
    (Decides-int_eq z (pos 0))

-- unsigned numbers are compared as they are held
pub less_low : (x y : ℤ) → wrapped U16 x ≡ x → wrapped U16 y ≡ y → nat_lt (low x) (low y) ≡ int_lt x y
less_low (pos a) (pos b) ex ey =
    let ta = (range_of U16 (pos a) ex).1 in
    let tb = (range_of U16 (pos b) ey).1 in
    let ha : a ≤ 65535 = omega (arith, ints, ta) in
    let hb : b ≤ 65535 = omega (arith, ints, tb) in
    let ma : a % 65536 ≡ a = omega (arith, ha) in
    let mb : b % 65536 ≡ b = omega (arith, hb) in
    ap (λ k. nat_lt k (b % 65536)) ma ∙ ap (nat_lt a) mb
less_low (negsuc a) y ex ey = let from = (range_of U16 (negsuc a) ex).0 in absurd (omega (arith, ints, from))
less_low (pos a) (negsuc b) ex ey = let from = (range_of U16 (negsuc b) ey).0 in absurd (omega (arith, ints, from))

pub le_is : (x y : ℕ) → nat_le x y ≡ not (nat_lt y x)
le_is x y = grind (arith, nat_tests)

pub byte_low : (z : ℤ) → low z % 256 ≡ low (wrapped U8 z)
byte_low (pos a) = omega arith
byte_low (negsuc a) = omega arith

-- ---- bits of one word

pub low_of_word : (t : IntType) → Is16Bits t → (m : ℕ) → m < 65536 → m ≡ low (wrapped t (pos m))
low_of_word t ok m lt = low_word m lt ∙ sym (low_wrapped t ok (pos m))

pub and_word : (x y : ℤ) → bit_and (low x) (low y) < 65536
and_word x y = let a = and_le_l (low x) (low y) in let b = low_small x in omega (arith, a, b)

pub or_word : (x y : ℤ) → bit_or (low x) (low y) < 65536
or_word x y = or_of_16 (low x) (low y) (low_small x) (low_small y)

pub xor_word : (x y : ℤ) → bit_xor (low x) (low y) < 65536
xor_word x y = xor_of_16 (low x) (low y) (low_small x) (low_small y)

-- ---- halves of numbers of 32 bits

pub low_of_rest : (z : ℤ) → low z ≡ residue 32 z % 65536
low_of_rest (pos a) = omega arith
low_of_rest (negsuc a) = omega arith

congruent32 : (x y k : ℤ) → x ≡ y +ℤ k *ℤ pos 4294967296 → residue 32 y ≡ residue 32 x
congruent32 x y k e =
    let a = rest_is x in
    let ea = a.1 in
    unique32 y (residue 32 x) (a.0 -ℤ k) (rest_small x) (omega (arith, ints, e, ea))

abbrev pub Is32Bits : IntType → Type 0
Is32Bits I32 = Unit {0}
Is32Bits U32 = Unit {0}
Is32Bits _ = ⊥

pub rest_wrapped : (t : IntType) → Is32Bits t → (z : ℤ) → residue 32 (wrapped t z) ≡ residue 32 z
rest_wrapped I32 ok z = let h = (wrapped_meant I32 z).congruent in congruent32 z (wrapped I32 z) h.0 h.1
rest_wrapped U32 ok z = let h = (wrapped_meant U32 z).congruent in congruent32 z (wrapped U32 z) h.0 h.1
rest_wrapped I8 ok z = absurd ok
rest_wrapped U8 ok z = absurd ok
rest_wrapped I16 ok z = absurd ok
rest_wrapped U16 ok z = absurd ok

rest_sum : (x y : ℤ) → residue 32 (x +ℤ y) ≡ (residue 32 x + residue 32 y) % 4294967296
rest_sum x y =
    let a = rest_is x in
    let b = rest_is y in
    let ea = a.1 in
    let eb = b.1 in
    let s = residue 32 x + residue 32 y in
    unique32 (x +ℤ y) (s % 4294967296) (a.0 +ℤ b.0 +ℤ pos (s / 4294967296)) (omega arith) (omega (arith, ints, ea, eb))

pub rest_difference : (x y : ℤ) → residue 32 (x -ℤ y) ≡ (residue 32 x + (4294967296 - residue 32 y)) % 4294967296
rest_difference x y =
    let a = rest_is x in
    let b = rest_is y in
    let ea = a.1 in
    let eb = b.1 in
    let lt = rest_small y in
    let s = residue 32 x + (4294967296 - residue 32 y) in
    unique32 (x -ℤ y) (s % 4294967296) (a.0 -ℤ b.0 +ℤ pos (s / 4294967296) -ℤ pos 1) (omega arith) (omega (arith, ints, ea, eb, lt))

carry_is : (b : Bool) (s : ℕ) → nat_lt 65535 s ≡ b → s < 131072 → number_of b ≡ s / 65536
carry_is true s e lt = let h = ltb-true 65535 s e in omega (arith, h, lt)
carry_is false s e lt = let h : s ≤ 65535 = grind (arith, nat_tests) in omega (arith, h)

halves_sum : (x y lx ly hx hy : ℕ) → x < 4294967296 → y < 4294967296 → lx ≡ x % 65536 → ly ≡ y % 65536 → hx ≡ x / 65536 → hy ≡ y / 65536 →
    (((hx + hy) % 65536 + (lx + ly) / 65536) % 65536 ≡ ((x + y) % 4294967296) / 65536) × ((lx + ly) % 65536 ≡ ((x + y) % 4294967296) % 65536)
halves_sum x y lx ly hx hy a b e f g h = (omega (arith, a, b, e, f, g, h), omega (arith, e, f))

-- the high half of a sum, by the carry
pub high_sum : (t : IntType) → Is32Bits t → (x y : ℤ) → ((high x + high y) % 65536 + number_of (nat_lt 65535 (low x + low y))) % 65536 ≡ high (wrapped t (x +ℤ y))
high_sum t ok x y =
    let a = low_small x in
    let b = low_small y in
    let c = carry_is (nat_lt 65535 (low x + low y)) (low x + low y) refl (omega (arith, a, b)) in
    ap (λ m. ((high x + high y) % 65536 + m) % 65536) c
    ∙ (halves_sum (residue 32 x) (residue 32 y) (low x) (low y) (high x) (high y) (rest_small x) (rest_small y) (low_of_rest x) (low_of_rest y) refl refl).0
    ∙ ap (λ m. m / 65536) (sym (rest_sum x y) ∙ sym (rest_wrapped t ok (x +ℤ y)))

pub wide_low_sum : (t : IntType) → Is32Bits t → (x y : ℤ) → (low x + low y) % 65536 ≡ low (wrapped t (x +ℤ y))
wide_low_sum t ok x y =
    (halves_sum (residue 32 x) (residue 32 y) (low x) (low y) (high x) (high y) (rest_small x) (rest_small y) (low_of_rest x) (low_of_rest y) refl refl).1
    ∙ ap (λ m. m % 65536) (sym (rest_sum x y) ∙ sym (rest_wrapped t ok (x +ℤ y))) ∙ sym (low_of_rest (wrapped t (x +ℤ y)))

halves_difference : (x y lx ly hx hy b : ℕ) → x < 4294967296 → y < 4294967296 → lx ≡ x % 65536 → ly ≡ y % 65536 → hx ≡ x / 65536 → hy ≡ y / 65536 →
    ((lx < ly) × (b ≡ 1)) ⊎ ((ly ≤ lx) × (b ≡ 0)) →
    ((((hx + (65536 - hy)) % 65536 + (65536 - b)) % 65536 ≡ ((x + (4294967296 - y)) % 4294967296) / 65536) × ((lx + (65536 - ly)) % 65536 ≡ ((x + (4294967296 - y)) % 4294967296) % 65536))
halves_difference x y lx ly hx hy b i j e f g h d = ⊎_elim
    (λ t. let u = t.0 in let v = t.1 in (omega (arith, i, j, e, f, g, h, u, v), omega (arith, i, j, e, f, u)))
    (λ t. let u = t.0 in let v = t.1 in (omega (arith, i, j, e, f, g, h, u, v), omega (arith, i, j, e, f, u)))
    d

borrow_is : (b : Bool) (x y : ℕ) → nat_lt x y ≡ b → ((x < y) × (number_of b ≡ 1)) ⊎ ((y ≤ x) × (number_of b ≡ 0))
borrow_is true x y e = inl (ltb-true x y e, refl)
borrow_is false x y e = inr (let h : y ≤ x = grind (arith, nat_tests) in h, refl)

module _ (t : IntType) (ok : Is32Bits t) (x y : ℤ) where
  both_halves : (((high x + (65536 - high y)) % 65536 + (65536 - number_of (nat_lt (low x) (low y)))) % 65536 ≡ ((residue 32 x + (4294967296 - residue 32 y)) % 4294967296) / 65536) × ((low x + (65536 - low y)) % 65536 ≡ ((residue 32 x + (4294967296 - residue 32 y)) % 4294967296) % 65536)
  both_halves = halves_difference (residue 32 x) (residue 32 y) (low x) (low y) (high x) (high y) (number_of (nat_lt (low x) (low y)))
      (rest_small x) (rest_small y) (low_of_rest x) (low_of_rest y) refl refl (borrow_is (nat_lt (low x) (low y)) (low x) (low y) refl)

  pub wide_low_difference : (low x + (65536 - low y)) % 65536 ≡ low (wrapped t (x -ℤ y))
  wide_low_difference = both_halves.1 ∙ ap (λ m. m % 65536) (sym (rest_difference x y) ∙ sym (rest_wrapped t ok (x -ℤ y))) ∙ sym (low_of_rest (wrapped t (x -ℤ y)))

  pub high_difference : ((high x + (65536 - high y)) % 65536 + (65536 - number_of (nat_lt (low x) (low y)))) % 65536 ≡ high (wrapped t (x -ℤ y))
  high_difference = both_halves.0 ∙ ap (λ m. m / 65536) (sym (rest_difference x y) ∙ sym (rest_wrapped t ok (x -ℤ y)))

-- ---- a number from its halves

pub rest_of_halves : (x y : ℕ) → x < 65536 → y < 65536 → residue 32 (pos (x + 65536 * y)) ≡ x + 65536 * y
rest_of_halves x y a b = omega (arith, a, b)

pub low_of_halves : (x y : ℕ) → x < 65536 → (x + 65536 * y) % 65536 ≡ x
low_of_halves x y a = omega (arith, a)

pub high_of_halves : (x y : ℕ) → x < 65536 → (x + 65536 * y) / 65536 ≡ y
high_of_halves x y a = omega (arith, a)

pub low_wrapped_wide : (t : IntType) → Is32Bits t → (z : ℤ) → low (wrapped t z) ≡ low z
low_wrapped_wide t ok z = low_of_rest (wrapped t z) ∙ ap (λ m. m % 65536) (rest_wrapped t ok z) ∙ sym (low_of_rest z)

-- not negative, in one value
abbrev pub IsShortUnsigned : IntType → Type 0
IsShortUnsigned U8 = Unit {0}
IsShortUnsigned U16 = Unit {0}
IsShortUnsigned _ = ⊥

-- a number of 16 bits that is not negative has no high half
pub no_high : (from : IntType) → (z : ℤ) → pos 0 ≤ℤ z → z ≤ℤ pos 65535 → high z ≡ 0
no_high from (pos a) some few = let h : a ≤ 65535 = omega (arith, ints, few) in omega (arith, h)
no_high from (negsuc a) some few = absurd (omega (arith, ints, some))

pub no_high_of : (from : IntType) → IsShortUnsigned from → (z : ℤ) → wrapped from z ≡ z → high z ≡ 0
no_high_of U8 ok z e = let h = range_of U8 z e in let a = h.0 in let b = h.1 in no_high U8 z a (omega (arith, ints, b))
no_high_of U16 ok z e = let h = range_of U16 z e in no_high U16 z h.0 h.1
no_high_of I8 ok z e = absurd ok
no_high_of I16 ok z e = absurd ok
no_high_of I32 ok z e = absurd ok
no_high_of U32 ok z e = absurd ok

-- ---- a number taken from 0

pub negated : (t : IntType) → Is16Bits t → (z : ℤ) → (0 + (65536 - low z)) % 65536 ≡ low (wrapped t (pos 0 -ℤ z))
negated t ok z = sym (low_difference (pos 0) z) ∙ sym (low_wrapped t ok (pos 0 -ℤ z))
