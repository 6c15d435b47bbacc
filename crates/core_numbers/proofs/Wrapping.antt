-- Numbers that wrapped at 64 bits are the same modulo the sizes of the types.
use Rattle.std.proofs.Common.{◌≡◌, ℕ, zero, suc, ◌+◌, ◌-◌, ◌*◌, ◌/◌, ◌%◌, ◌^◌, ◌<◌, ◌≤◌, Bool, true, false, refl, ap, sym, subst, ◌∙◌, arith, w64}
use Rattle.std.specs.Prelude.{ℤ, pos, negsuc, unsigned_abs, int_div, neg_ℤ}
use Rattle.std.specs.Int.{int_rem_euclid, int_wrap}
use Rattle.std.proofs.Math.Nat.{mul-add-mod_self_left, mod-eq_of_lt, div-add-mod, mod-lt, mul-le-mul_left, div-le_self}
use Rattle.std.proofs.Common.{pow_mono}
use Rattle.nm_base.specs.declared.int_type.IntType.{IntType}
use Rattle.nm_base.specs.declared.int_type.IntType.TheVariants.{I8, U8, I16, U16, I32, U32}
use Rattle.nm_base.specs.IntType.{wrapped, signed_part}
use mir.Val.{sel, of_z, to_z, bits, SFits}

lower : (k q : ℕ) → (k ≤ q → ⊥) → q < k
lower k q h = grind arith

-- counted from the other end
complement : (n m k : ℕ) → 0 < m → n < m * k → (m * k - 1 - n) % m ≡ m - 1 - n % m
complement n m k some below =
    let q = n / m in
    let split : m * q + n % m ≡ n = div-add-mod n m in
    let low : n % m < m = mod-lt n some in
    let inside : q < k = lower k q (λ le. omega (arith, split, mul-le-mul_left m le)) in
    let d = k - suc q in
    let all : k ≡ suc q + d = omega arith in
    let parts : m * k ≡ m * q + m + m * d = ap (λ j. m * j) all ∙ grind arith in
    let rest : m * k - 1 - n ≡ m * d + (m - 1 - n % m) = omega arith in
    ap (λ j. j % m) rest ∙ mul-add-mod_self_left m d (m - 1 - n % m) ∙ mod-eq_of_lt (omega arith)

mod_twice : (a m k : ℕ) → (a % (m * k)) % m ≡ a % m
mod_twice a m k =
    let s = a % (m * k) in
    let q = a / (m * k) in
    let split : (m * k) * q + s ≡ a = div-add-mod a (m * k) in
    let turned : m * (k * q) + s ≡ a = ap (λ j. j + s) (grind arith) ∙ split in
    sym (mul-add-mod_self_left m (k * q) s) ∙ ap (λ j. j % m) turned

module _ (m k : ℕ) (some : 0 < m) (all : 0 < m * k) where
  rest_of_bits : (z : ℤ) → pos (unsigned_abs (int_rem_euclid z (pos (m * k))) % m) ≡ int_rem_euclid z (pos m)
  rest_of_bits (pos a) = ap pos (mod_twice a m k)
  rest_of_bits (negsuc a) = ap pos (complement (a % (m * k)) m k some (mod-lt a all) ∙ ap (λ r. m - 1 - r) (mod_twice a m k))

  below : (z : ℤ) → unsigned_abs (int_rem_euclid z (pos (m * k))) < m * k
  below (pos a) = mod-lt a all
  below (negsuc a) = omega arith

  by_sign : (b : Bool) (n : ℕ) → n < m * k → int_rem_euclid (sel b (pos n) (negsuc (m * k - suc n))) (pos m) ≡ pos (n % m)
  by_sign true n lt = refl
  by_sign false n lt =
      let e : m * k - suc n ≡ m * k - 1 - n = omega arith in
      let low : n % m < m = mod-lt n some in
      let r : (m * k - suc n) % m ≡ m - 1 - n % m = ap (λ j. j % m) e ∙ complement n m k some lt in
      ap pos (omega arith)

whole : (m k n : ℕ) → 0 < m → 0 < n → m * k ≡ n → (b : Bool) (z : ℤ)
    → int_rem_euclid (sel b (pos (unsigned_abs (int_rem_euclid z (pos n)))) (negsuc (n - suc (unsigned_abs (int_rem_euclid z (pos n)))))) (pos m)
    ≡ int_rem_euclid z (pos m)
whole m k n some all is b z =
    subst (λ j. int_rem_euclid (sel b (pos (unsigned_abs (int_rem_euclid z (pos j)))) (negsuc (j - suc (unsigned_abs (int_rem_euclid z (pos j)))))) (pos m) ≡ int_rem_euclid z (pos m)) is
    (by_sign m k some (omega arith) b (unsigned_abs (int_rem_euclid z (pos (m * k)))) (below m k some (omega arith) z) ∙ rest_of_bits m k some (omega arith) z)

rest_of_wrapped : (m k : ℕ) → 0 < m → m * k ≡ 2 ^ 64 → (z : ℤ) → int_rem_euclid (int_wrap w64 z) (pos m) ≡ int_rem_euclid z (pos m)
unfolding int_wrap
rest_of_wrapped m k some is z = whole m k (2 ^ 64) some (omega arith) is _ z

pub wrapped-int_wrap : (t : IntType) (z : ℤ) → wrapped t (int_wrap w64 z) ≡ wrapped t z
wrapped-int_wrap I8 z = ap (λ r. signed_part r (pos 128)) (rest_of_wrapped 256 72057594037927936 (omega arith) refl z)
wrapped-int_wrap U8 z = rest_of_wrapped 256 72057594037927936 (omega arith) refl z
wrapped-int_wrap I16 z = ap (λ r. signed_part r (pos 32768)) (rest_of_wrapped 65536 281474976710656 (omega arith) refl z)
wrapped-int_wrap U16 z = rest_of_wrapped 65536 281474976710656 (omega arith) refl z
wrapped-int_wrap I32 z = ap (λ r. signed_part r (pos 2147483648)) (rest_of_wrapped 4294967296 4294967296 (omega arith) refl z)
wrapped-int_wrap U32 z = rest_of_wrapped 4294967296 4294967296 (omega arith) refl z

pub small_power : (n : ℕ) → n < 32 → 2 ^ n < 2 ^ 63
small_power n h = let m : 2 ^ n ≤ 2 ^ 32 = pow_mono {i = n} {j = 32} (omega arith) in omega arith

pub of_z_below : (x : ℤ) → SFits w64 x → of_z w64 x < 2 ^ bits w64
of_z_below (pos n) h = omega (arith, h.sfits)
of_z_below (negsuc n) h = omega arith

-- a number of up to 64 bits, and its sign, is its own rest
taken_back : (z : ℤ) → unsigned_abs z ≤ 2 ^ 63 → to_z w64 (of_z w64 z) ≡ int_wrap w64 z
unfolding int_wrap
taken_back (pos a) low = ap (to_z w64) (sym (mod-eq_of_lt (omega arith)))
taken_back (negsuc a) low = let e : a % 2 ^ 64 ≡ a = mod-eq_of_lt (omega arith) in ap (to_z w64) (omega arith)

turned : (n : ℕ) → unsigned_abs (neg_ℤ (pos n)) ≡ n
turned zero = refl
turned (suc n) = refl

pub quotient_wraps : (t : IntType) (x y : ℤ) → SFits w64 x → wrapped t (to_z w64 (of_z w64 (int_div x y))) ≡ wrapped t (int_div x y)
quotient_wraps t x y h = ap (wrapped t) (taken_back (int_div x y) (low x y h)) ∙ wrapped-int_wrap t (int_div x y)
  where
    low : (x y : ℤ) → SFits w64 x → unsigned_abs (int_div x y) ≤ 2 ^ 63
    low (pos a) (pos b) h = omega (arith, h.sfits, div-le_self a b)
    low (pos a) (negsuc b) h = omega (arith, h.sfits, div-le_self a (suc b), turned (a / suc b))
    low (negsuc a) (pos b) h = omega (arith, h.sfits, div-le_self (suc a) b, turned (suc a / b))
    low (negsuc a) (negsuc b) h = omega (arith, h.sfits, div-le_self (suc a) (suc b))
