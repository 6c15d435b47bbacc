-- What helpers give of quotients and remainders of 32 bits.
use Rattle.std.proofs.Common.{◌≡◌, ℕ, zero, suc, ◌-◌, ◌/◌, ◌%◌, ◌==◌, ◌<◌, ◌≤◌, Bool, true, false, cond, nat_le, refl, sym, ap, ◌∙◌, arith}
use Rattle.std.specs.Prelude.{pos, negsuc, neg_ℤ, int_div, int_rem}
use Rattle.std.proofs.lemmas.Bool.Decides.{nat_tests}
use Rattle.std.proofs.Math.Nat.{div-le_self, mod-le}
use Rattle.nm_base.specs.declared.int_type.IntType.TheVariants.{I32, U32}
use Rattle.nm_base.specs.IntType.{wrapped}
use Rattle.mid_code.specs.Help.{residue, unless_zero}
use Rattle.msp_runtime.proofs.Divide.{quotient_of, remainder_of}
use Rattle.msp_runtime.proofs.GivenWords.{differs, zero_word}
use Rattle.msp_runtime.proofs.WideShifts.{signed_number, unsigned_number}

abbrev pub negated_wide : ℕ → ℕ
negated_wide m = (4294967296 - m) % 4294967296

pub residue_negated : (m : ℕ) → m ≤ 4294967295 → residue 32 (neg_ℤ (pos m)) ≡ negated_wide m
residue_negated zero le = refl
residue_negated (suc m) le = omega (arith, le)

-- ---- quotients and remainders

pub quotient_unsigned_wide : (x y : ℕ) → x < 0x100000000 → y < 0x100000000 → quotient_of x y ≡ residue 32 (unless_zero (wrapped U32 (pos y)) (int_div (wrapped U32 (pos x)) (wrapped U32 (pos y))))
quotient_unsigned_wide x y lx ly = by (y == 0) ∙ ap (λ b. residue 32 (cond b (pos 0) (pos (x / y)))) (sym (zero_word y)) ∙ ap (λ z. residue 32 (unless_zero z (int_div (pos x) z))) (sym (unsigned_number y ly)) ∙ ap (λ z. residue 32 (unless_zero (wrapped U32 (pos y)) (int_div z (wrapped U32 (pos y))))) (sym (unsigned_number x lx))
  where
    by : (b : Bool) → cond b 0 (x / y) ≡ residue 32 (cond b (pos 0) (pos (x / y)))
    by true = refl
    by false = let d = div-le_self x y in omega (arith, d, lx)

pub remainder_unsigned_wide : (x y : ℕ) → x < 0x100000000 → y < 0x100000000 → remainder_of x y ≡ residue 32 (unless_zero (wrapped U32 (pos y)) (int_rem (wrapped U32 (pos x)) (wrapped U32 (pos y))))
remainder_unsigned_wide x y lx ly = by (y == 0) ∙ ap (λ b. residue 32 (cond b (pos 0) (pos (x % y)))) (sym (zero_word y)) ∙ ap (λ z. residue 32 (unless_zero z (int_rem (pos x) z))) (sym (unsigned_number y ly)) ∙ ap (λ z. residue 32 (unless_zero (wrapped U32 (pos y)) (int_rem z (wrapped U32 (pos y))))) (sym (unsigned_number x lx))
  where
    by : (b : Bool) → cond b 0 (x % y) ≡ residue 32 (cond b (pos 0) (pos (x % y)))
    by true = refl
    by false = let d = mod-le x y in omega (arith, d, lx)

-- a word without its sign
abbrev pub magnitude_wide_of : ℕ → ℕ
magnitude_wide_of x = cond (nat_le 0x80000000 x) (4294967296 - x) x

abbrev pub signed_by_wide : Bool → ℕ → ℕ
signed_by_wide s m = cond s (negated_wide m) m

zero_or : (b : Bool) (m : ℕ) → m ≤ 4294967295 → negated_wide (cond b 0 m) ≡ residue 32 (cond b (pos 0) (neg_ℤ (pos m)))
zero_or true m le = refl
zero_or false m le = sym (residue_negated m le)

plain_or : (b : Bool) (m : ℕ) → m ≤ 4294967295 → cond b 0 m ≡ residue 32 (cond b (pos 0) (pos m))
plain_or true m le = refl
plain_or false m le = omega (arith, le)

pub quotient_signed_wide : (x y : ℕ) → x < 0x100000000 → y < 0x100000000 →
    signed_by_wide (differs (nat_le 0x80000000 x) (nat_le 0x80000000 y)) (quotient_of (magnitude_wide_of x) (magnitude_wide_of y)) ≡ residue 32 (unless_zero (wrapped I32 (pos y)) (int_div (wrapped I32 (pos x)) (wrapped I32 (pos y))))
quotient_signed_wide x y lx ly = rw (signed_number x lx, signed_number y ly) (by (nat_le 0x80000000 x) (nat_le 0x80000000 y) refl refl)
  where
    by : (s t : Bool) → nat_le 0x80000000 x ≡ s → nat_le 0x80000000 y ≡ t → signed_by_wide (differs s t) (quotient_of (cond s (4294967296 - x) x) (cond t (4294967296 - y) y)) ≡ residue 32 (unless_zero (cond t (negsuc (4294967295 - y)) (pos y)) (int_div (cond s (negsuc (4294967295 - x)) (pos x)) (cond t (negsuc (4294967295 - y)) (pos y))))
    by true true f g =
        let sx : suc (4294967295 - x) ≡ 4294967296 - x = omega (arith, lx) in let sy : suc (4294967295 - y) ≡ 4294967296 - y = omega (arith, ly) in
        let n : (4294967296 - y == 0) ≡ false = grind (arith, nat_tests) in let d = div-le_self (4294967296 - x) (4294967296 - y) in let le : 0x80000000 ≤ x = grind (arith, nat_tests) in
        rw (n, sx, sy) (omega (arith, d, le))
    by true false f g =
        let sx : suc (4294967295 - x) ≡ 4294967296 - x = omega (arith, lx) in let le : 0x80000000 ≤ x = grind (arith, nat_tests) in let d = div-le_self (4294967296 - x) y in
        rw (sx, zero_word y) (zero_or (y == 0) ((4294967296 - x) / y) (omega (arith, d, le)))
    by false true f g =
        let sy : suc (4294967295 - y) ≡ 4294967296 - y = omega (arith, ly) in let n : (4294967296 - y == 0) ≡ false = grind (arith, nat_tests) in let d = div-le_self x (4294967296 - y) in
        rw (n, sy) (sym (residue_negated (x / (4294967296 - y)) (omega (arith, d, lx))))
    by false false f g = let d = div-le_self x y in plain_or (y == 0) (x / y) (omega (arith, d, lx)) ∙ ap (λ b. residue 32 (cond b (pos 0) (pos (x / y)))) (sym (zero_word y))

pub remainder_signed_wide : (x y : ℕ) → x < 0x100000000 → y < 0x100000000 →
    signed_by_wide (nat_le 0x80000000 x) (remainder_of (magnitude_wide_of x) (magnitude_wide_of y)) ≡ residue 32 (unless_zero (wrapped I32 (pos y)) (int_rem (wrapped I32 (pos x)) (wrapped I32 (pos y))))
remainder_signed_wide x y lx ly = rw (signed_number x lx, signed_number y ly) (by (nat_le 0x80000000 x) (nat_le 0x80000000 y) refl refl)
  where
    by : (s t : Bool) → nat_le 0x80000000 x ≡ s → nat_le 0x80000000 y ≡ t → signed_by_wide s (remainder_of (cond s (4294967296 - x) x) (cond t (4294967296 - y) y)) ≡ residue 32 (unless_zero (cond t (negsuc (4294967295 - y)) (pos y)) (int_rem (cond s (negsuc (4294967295 - x)) (pos x)) (cond t (negsuc (4294967295 - y)) (pos y))))
    by true true f g =
        let sx : suc (4294967295 - x) ≡ 4294967296 - x = omega (arith, lx) in let sy : suc (4294967295 - y) ≡ 4294967296 - y = omega (arith, ly) in
        let n : (4294967296 - y == 0) ≡ false = grind (arith, nat_tests) in let d = mod-le (4294967296 - x) (4294967296 - y) in let le : 0x80000000 ≤ x = grind (arith, nat_tests) in
        rw (n, sx, sy) (sym (residue_negated ((4294967296 - x) % (4294967296 - y)) (omega (arith, d, le))))
    by true false f g =
        let sx : suc (4294967295 - x) ≡ 4294967296 - x = omega (arith, lx) in let le : 0x80000000 ≤ x = grind (arith, nat_tests) in let d = mod-le (4294967296 - x) y in
        rw (sx, zero_word y) (zero_or (y == 0) ((4294967296 - x) % y) (omega (arith, d, le)))
    by false true f g =
        let sy : suc (4294967295 - y) ≡ 4294967296 - y = omega (arith, ly) in let n : (4294967296 - y == 0) ≡ false = grind (arith, nat_tests) in let d = mod-le x (4294967296 - y) in
        rw (n, sy) (omega (arith, d, lx))
    by false false f g = let d = mod-le x y in plain_or (y == 0) (x % y) (omega (arith, d, lx)) ∙ ap (λ b. residue 32 (cond b (pos 0) (pos (x % y)))) (sym (zero_word y))
