-- The residues of products.
use Rattle.std.proofs.Common.{◌≡◌, ℕ, zero, suc, ◌+◌, ◌-◌, ◌*◌, ◌/◌, ◌%◌, refl, sym, ap, ◌∙◌, arith, add-mul, mul-add, mul_assoc, mul_left_comm}
use Rattle.std.specs.Prelude.{ℤ, pos, negsuc, neg_ℤ, ◌*ℤ◌}
use Rattle.std.proofs.lemmas.Nat.{mul-mod_first, mul-mod_second}
use lib.IntN.{*ℤ-negsuc, negsuc-*ℤ-pos, pos-*ℤ-pos}
use Rattle.core_meaning.specs.Numbers.{residue}
use Rattle.lower_expr.specs.Held.{low}

-- what makes a multiple of 65,536 of the other
opposite : (p s q : ℕ) → p + s ≡ 65536 * q → p % 65536 ≡ (65536 - s % 65536) % 65536
opposite p s q e = omega (arith, e)

low_opposite : (z : ℤ) → low (neg_ℤ z) ≡ (65536 - low z) % 65536
low_opposite (pos zero) = refl
low_opposite (pos (suc m)) = omega arith
low_opposite (negsuc m) = omega arith

whole : (a : ℕ) → 65535 - a % 65536 + suc a ≡ 65536 * (1 + a / 65536)
whole a = omega arith

pub low_scaled : (x : ℤ) (b : ℕ) → low (x *ℤ pos b) ≡ (low x * b) % 65536
low_scaled (pos a) b = ap low (pos-*ℤ-pos a b) ∙ sym (mul-mod_first a b 65536)
low_scaled (negsuc a) b =
    let d : ℕ = 65535 - a % 65536 in
    let sum : d * b + suc a * b ≡ 65536 * ((1 + a / 65536) * b) = sym (add-mul d (suc a) b) ∙ ap (λ u. u * b) (whole a) ∙ mul_assoc 65536 (1 + a / 65536) b in
    ap low (negsuc-*ℤ-pos a b) ∙ low_opposite (pos (suc a * b)) ∙ sym (opposite (d * b) (suc a * b) ((1 + a / 65536) * b) sum)

pub low_product : (x y : ℤ) → low (x *ℤ y) ≡ (low x * low y) % 65536
low_product x (pos b) = low_scaled x b ∙ sym (mul-mod_second (low x) b 65536)
low_product x (negsuc b) =
    let d : ℕ = 65535 - b % 65536 in
    let sum : low x * d + low x * suc b ≡ 65536 * (low x * (1 + b / 65536)) = sym (mul-add (low x) d (suc b)) ∙ ap (λ u. low x * u) (whole b) ∙ mul_left_comm (low x) 65536 (1 + b / 65536) in
    ap low (*ℤ-negsuc x b) ∙ low_opposite (x *ℤ pos (suc b)) ∙ ap (λ u. (65536 - u) % 65536) (low_scaled x (suc b))
    ∙ sym (opposite (low x * d) (low x * suc b) (low x * (1 + b / 65536)) sum)

-- ---- of numbers of 32 bits

-- what makes a multiple of 2 ^ 32 of the other
far_opposite : (p s q : ℕ) → p + s ≡ 4294967296 * q → p % 4294967296 ≡ (4294967296 - s % 4294967296) % 4294967296
far_opposite p s q e = omega (arith, e)

rest_opposite : (z : ℤ) → residue 32 (neg_ℤ z) ≡ (4294967296 - residue 32 z) % 4294967296
rest_opposite (pos zero) = refl
rest_opposite (pos (suc m)) = omega arith
rest_opposite (negsuc m) = omega arith

far_whole : (a : ℕ) → 4294967295 - a % 4294967296 + suc a ≡ 4294967296 * (1 + a / 4294967296)
far_whole a = omega arith

pub rest_scaled : (x : ℤ) (b : ℕ) → residue 32 (x *ℤ pos b) ≡ (residue 32 x * b) % 4294967296
rest_scaled (pos a) b = ap (residue 32) (pos-*ℤ-pos a b) ∙ sym (mul-mod_first a b 4294967296)
rest_scaled (negsuc a) b =
    let d : ℕ = 4294967295 - a % 4294967296 in
    let sum : d * b + suc a * b ≡ 4294967296 * ((1 + a / 4294967296) * b) = sym (add-mul d (suc a) b) ∙ ap (λ u. u * b) (far_whole a) ∙ mul_assoc 4294967296 (1 + a / 4294967296) b in
    ap (residue 32) (negsuc-*ℤ-pos a b) ∙ rest_opposite (pos (suc a * b)) ∙ sym (far_opposite (d * b) (suc a * b) ((1 + a / 4294967296) * b) sum)

pub rest_product : (x y : ℤ) → residue 32 (x *ℤ y) ≡ (residue 32 x * residue 32 y) % 4294967296
rest_product x (pos b) = rest_scaled x b ∙ sym (mul-mod_second (residue 32 x) b 4294967296)
rest_product x (negsuc b) =
    let d : ℕ = 4294967295 - b % 4294967296 in
    let sum : residue 32 x * d + residue 32 x * suc b ≡ 4294967296 * (residue 32 x * (1 + b / 4294967296)) = sym (mul-add (residue 32 x) d (suc b)) ∙ ap (λ u. residue 32 x * u) (far_whole b) ∙ mul_left_comm (residue 32 x) 4294967296 (1 + b / 4294967296) in
    ap (residue 32) (*ℤ-negsuc x b) ∙ rest_opposite (x *ℤ pos (suc b)) ∙ ap (λ u. (4294967296 - u) % 4294967296) (rest_scaled x (suc b))
    ∙ sym (far_opposite (residue 32 x * d) (residue 32 x * suc b) (residue 32 x * (1 + b / 4294967296)) sum)
