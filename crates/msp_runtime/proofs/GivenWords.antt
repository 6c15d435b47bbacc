-- What helpers give of words, in numbers of words.
use Rattle.std.proofs.Common.{◌≡◌, ℕ, zero, suc, ◌+◌, ◌-◌, ◌*◌, ◌/◌, ◌%◌, ◌^◌, ◌==◌, ◌<◌, ◌≤◌, Bool, true, false, cond, nat_le, nat_lt, refl, sym, ap, ◌∙◌, arith}
use Rattle.std.specs.Prelude.{pos, negsuc, neg_ℤ, int_div, int_rem, unsigned_abs}
use Rattle.std.specs.Ordering.{int_eq}
use Rattle.std.proofs.lemmas.Bool.Decides.{Decides-eqb, Decides-int_eq, nat_tests, same_from_decides}
use Rattle.std.proofs.lemmas.Int.{ints}
use Rattle.std.proofs.Math.Nat.{div-le_self, mod-le}
use Rattle.nm_base.specs.declared.int_type.IntType.TheVariants.{I16, U16}
use Rattle.nm_base.specs.IntType.{signed_part, wrapped}
use Rattle.mid_code.specs.Help.{residue, shifted_right, unless_zero}
use Rattle.msp_runtime.proofs.Divide.{quotient_of, remainder_of}
use Rattle.msp_runtime.proofs.Shifts.{above, risen}

-- ---- numbers below 16

pub each16 : (P : ℕ → Type 0) → P 0 → P 1 → P 2 → P 3 → P 4 → P 5 → P 6 → P 7 → P 8 → P 9 → P 10 → P 11 → P 12 → P 13 → P 14 → P 15 → (n : ℕ) → n < 16 → P n
each16 P p0 p1 p2 p3 p4 p5 p6 p7 p8 p9 p10 p11 p12 p13 p14 p15 zero lt = p0
each16 P p0 p1 p2 p3 p4 p5 p6 p7 p8 p9 p10 p11 p12 p13 p14 p15 (suc zero) lt = p1
each16 P p0 p1 p2 p3 p4 p5 p6 p7 p8 p9 p10 p11 p12 p13 p14 p15 (suc (suc zero)) lt = p2
each16 P p0 p1 p2 p3 p4 p5 p6 p7 p8 p9 p10 p11 p12 p13 p14 p15 (suc (suc (suc zero))) lt = p3
each16 P p0 p1 p2 p3 p4 p5 p6 p7 p8 p9 p10 p11 p12 p13 p14 p15 (suc (suc (suc (suc zero)))) lt = p4
each16 P p0 p1 p2 p3 p4 p5 p6 p7 p8 p9 p10 p11 p12 p13 p14 p15 (suc (suc (suc (suc (suc zero))))) lt = p5
each16 P p0 p1 p2 p3 p4 p5 p6 p7 p8 p9 p10 p11 p12 p13 p14 p15 (suc (suc (suc (suc (suc (suc zero)))))) lt = p6
each16 P p0 p1 p2 p3 p4 p5 p6 p7 p8 p9 p10 p11 p12 p13 p14 p15 (suc (suc (suc (suc (suc (suc (suc zero))))))) lt = p7
each16 P p0 p1 p2 p3 p4 p5 p6 p7 p8 p9 p10 p11 p12 p13 p14 p15 (suc (suc (suc (suc (suc (suc (suc (suc zero)))))))) lt = p8
each16 P p0 p1 p2 p3 p4 p5 p6 p7 p8 p9 p10 p11 p12 p13 p14 p15 (suc (suc (suc (suc (suc (suc (suc (suc (suc zero))))))))) lt = p9
each16 P p0 p1 p2 p3 p4 p5 p6 p7 p8 p9 p10 p11 p12 p13 p14 p15 (suc (suc (suc (suc (suc (suc (suc (suc (suc (suc zero)))))))))) lt = p10
each16 P p0 p1 p2 p3 p4 p5 p6 p7 p8 p9 p10 p11 p12 p13 p14 p15 (suc (suc (suc (suc (suc (suc (suc (suc (suc (suc (suc zero))))))))))) lt = p11
each16 P p0 p1 p2 p3 p4 p5 p6 p7 p8 p9 p10 p11 p12 p13 p14 p15 (suc (suc (suc (suc (suc (suc (suc (suc (suc (suc (suc (suc zero)))))))))))) lt = p12
each16 P p0 p1 p2 p3 p4 p5 p6 p7 p8 p9 p10 p11 p12 p13 p14 p15 (suc (suc (suc (suc (suc (suc (suc (suc (suc (suc (suc (suc (suc zero))))))))))))) lt = p13
each16 P p0 p1 p2 p3 p4 p5 p6 p7 p8 p9 p10 p11 p12 p13 p14 p15 (suc (suc (suc (suc (suc (suc (suc (suc (suc (suc (suc (suc (suc (suc zero)))))))))))))) lt = p14
each16 P p0 p1 p2 p3 p4 p5 p6 p7 p8 p9 p10 p11 p12 p13 p14 p15 (suc (suc (suc (suc (suc (suc (suc (suc (suc (suc (suc (suc (suc (suc (suc zero))))))))))))))) lt = p15
each16 P p0 p1 p2 p3 p4 p5 p6 p7 p8 p9 p10 p11 p12 p13 p14 p15 (suc (suc (suc (suc (suc (suc (suc (suc (suc (suc (suc (suc (suc (suc (suc (suc n)))))))))))))))) lt = absurd (omega (arith, lt))

-- ---- signed words

pub signed_word : (x : ℕ) → x < 0x10000 → wrapped I16 (pos x) ≡ cond (nat_le 0x8000 x) (negsuc (65535 - x)) (pos x)
signed_word x lt = by (nat_le 0x8000 x) refl
  where
    same : x % 65536 ≡ x
    same = omega (arith, lt)

    by : (b : Bool) → nat_le 0x8000 x ≡ b → signed_part (pos (x % 65536)) (pos 32768) ≡ cond b (negsuc (65535 - x)) (pos x)
    by true e = let le : 0x8000 ≤ x = grind (arith, nat_tests) in let t : nat_lt x 32768 ≡ false = grind (arith, nat_tests) in rw (same) (rw (t) (omega (arith, ints, le, lt)))
    by false e = let l : x < 0x8000 = grind (arith, nat_tests) in let t : nat_lt x 32768 ≡ true = grind (arith, nat_tests) in rw (same) (rw (t) refl)

pub unsigned_word : (x : ℕ) → x < 0x10000 → wrapped U16 (pos x) ≡ pos x
unsigned_word x lt = ap pos (let z : x % 65536 ≡ x = omega (arith, lt) in z)

abbrev pub negated : ℕ → ℕ
negated m = (65536 - m) % 65536

pub residue_negated : (m : ℕ) → m ≤ 65535 → residue 16 (neg_ℤ (pos m)) ≡ negated m
residue_negated zero le = refl
residue_negated (suc m) le = omega (arith, le)

-- ---- shifts to the right

pub right_unsigned : (x n : ℕ) → x < 0x10000 → n < 0x10000 → risen x 0 n ≡ residue 16 (shifted_right U16 (wrapped U16 (pos x)) n)
right_unsigned x n lx ln = by (nat_le 16 n) refl ∙ ap (λ z. residue 16 (shifted_right U16 z n)) (sym (unsigned_word x lx))
  where
    by : (b : Bool) → nat_le 16 n ≡ b → risen x 0 n ≡ residue 16 (shifted_right U16 (pos x) n)
    by true e = let t : nat_lt n 16 ≡ false = grind (arith, nat_tests) in rw (e, t) (omega (arith, lx))
    by false e =
        let lt : n < 16 = grind (arith, nat_tests) in let t : nat_lt n 16 ≡ true = grind (arith, nat_tests) in
        rw (e, t) (each16 (λ k. ((x + 65536 * 0) * 2 ^ (16 - k) / 0x10000) % 0x10000 ≡ (x / 2 ^ k) % 65536) (omega arith) (omega arith) (omega arith) (omega arith) (omega arith) (omega arith) (omega arith) (omega arith) (omega arith) (omega arith) (omega arith) (omega arith) (omega arith) (omega arith) (omega arith) (omega arith) n lt)

pub right_signed : (x n : ℕ) → x < 0x10000 → n < 0x10000 → risen x (above true x) n ≡ residue 16 (shifted_right I16 (wrapped I16 (pos x)) n)
right_signed x n lx ln = rw (signed_word x lx) (by (nat_le 0x8000 x) (nat_le 16 n) refl refl)
  where
    by : (s b : Bool) → nat_le 0x8000 x ≡ s → nat_le 16 n ≡ b → risen x (cond s 0xFFFF 0) n ≡ residue 16 (shifted_right I16 (cond s (negsuc (65535 - x)) (pos x)) n)
    by true true f e = let t : nat_lt n 16 ≡ false = grind (arith, nat_tests) in rw (e, t) (omega (arith, lx))
    by false true f e = let t : nat_lt n 16 ≡ false = grind (arith, nat_tests) in rw (e, t) (omega (arith, lx))
    by true false f e =
        let lt : n < 16 = grind (arith, nat_tests) in let t : nat_lt n 16 ≡ true = grind (arith, nat_tests) in
        rw (e, t) (each16 (λ k. ((x + 65536 * 0xFFFF) * 2 ^ (16 - k) / 0x10000) % 0x10000 ≡ 65536 - 1 - ((65535 - x) / 2 ^ k) % 65536) (omega arith) (omega arith) (omega arith) (omega arith) (omega arith) (omega arith) (omega arith) (omega arith) (omega arith) (omega arith) (omega arith) (omega arith) (omega arith) (omega arith) (omega arith) (omega arith) n lt)
    by false false f e =
        let lt : n < 16 = grind (arith, nat_tests) in let t : nat_lt n 16 ≡ true = grind (arith, nat_tests) in
        rw (e, t) (each16 (λ k. ((x + 65536 * 0) * 2 ^ (16 - k) / 0x10000) % 0x10000 ≡ (x / 2 ^ k) % 65536) (omega arith) (omega arith) (omega arith) (omega arith) (omega arith) (omega arith) (omega arith) (omega arith) (omega arith) (omega arith) (omega arith) (omega arith) (omega arith) (omega arith) (omega arith) (omega arith) n lt)

-- ---- quotients and remainders

pub zero_word : (y : ℕ) → int_eq (pos y) (pos 0) ≡ (y == 0)
zero_word y = let d = Decides-eqb y 0 in sym (same_from_decides (y == 0) (int_eq (pos y) (pos 0)) ((λ h. ap pos (d.0 h)), (λ h. d.1 (ap unsigned_abs h))) (Decides-int_eq (pos y) (pos 0)))

pub quotient_unsigned : (x y : ℕ) → x < 0x10000 → y < 0x10000 → quotient_of x y ≡ residue 16 (unless_zero (wrapped U16 (pos y)) (int_div (wrapped U16 (pos x)) (wrapped U16 (pos y))))
quotient_unsigned x y lx ly = by (y == 0) ∙ ap (λ b. residue 16 (cond b (pos 0) (pos (x / y)))) (sym (zero_word y)) ∙ ap (λ z. residue 16 (unless_zero z (int_div (pos x) z))) (sym (unsigned_word y ly)) ∙ ap (λ z. residue 16 (unless_zero (wrapped U16 (pos y)) (int_div z (wrapped U16 (pos y))))) (sym (unsigned_word x lx))
  where
    by : (b : Bool) → cond b 0 (x / y) ≡ residue 16 (cond b (pos 0) (pos (x / y)))
    by true = refl
    by false = let d = div-le_self x y in omega (arith, d, lx)

pub remainder_unsigned : (x y : ℕ) → x < 0x10000 → y < 0x10000 → remainder_of x y ≡ residue 16 (unless_zero (wrapped U16 (pos y)) (int_rem (wrapped U16 (pos x)) (wrapped U16 (pos y))))
remainder_unsigned x y lx ly = by (y == 0) ∙ ap (λ b. residue 16 (cond b (pos 0) (pos (x % y)))) (sym (zero_word y)) ∙ ap (λ z. residue 16 (unless_zero z (int_rem (pos x) z))) (sym (unsigned_word y ly)) ∙ ap (λ z. residue 16 (unless_zero (wrapped U16 (pos y)) (int_rem z (wrapped U16 (pos y))))) (sym (unsigned_word x lx))
  where
    by : (b : Bool) → cond b 0 (x % y) ≡ residue 16 (cond b (pos 0) (pos (x % y)))
    by true = refl
    by false = let d = mod-le x y in omega (arith, d, lx)

-- a word without its sign
abbrev pub magnitude_of : ℕ → ℕ
magnitude_of x = cond (nat_le 0x8000 x) (65536 - x) x

abbrev pub signed_by : Bool → ℕ → ℕ
signed_by s m = cond s (negated m) m

abbrev pub differs : Bool → Bool → Bool
differs true true = false
differs true false = true
differs false true = true
differs false false = false

zero_or : (b : Bool) (m : ℕ) → m ≤ 65535 → negated (cond b 0 m) ≡ residue 16 (cond b (pos 0) (neg_ℤ (pos m)))
zero_or true m le = refl
zero_or false m le = sym (residue_negated m le)

plain_or : (b : Bool) (m : ℕ) → m ≤ 65535 → cond b 0 m ≡ residue 16 (cond b (pos 0) (pos m))
plain_or true m le = refl
plain_or false m le = omega (arith, le)

pub quotient_signed : (x y : ℕ) → x < 0x10000 → y < 0x10000 →
    signed_by (differs (nat_le 0x8000 x) (nat_le 0x8000 y)) (quotient_of (magnitude_of x) (magnitude_of y)) ≡ residue 16 (unless_zero (wrapped I16 (pos y)) (int_div (wrapped I16 (pos x)) (wrapped I16 (pos y))))
quotient_signed x y lx ly = rw (signed_word x lx, signed_word y ly) (by (nat_le 0x8000 x) (nat_le 0x8000 y) refl refl)
  where
    by : (s t : Bool) → nat_le 0x8000 x ≡ s → nat_le 0x8000 y ≡ t → signed_by (differs s t) (quotient_of (cond s (65536 - x) x) (cond t (65536 - y) y)) ≡ residue 16 (unless_zero (cond t (negsuc (65535 - y)) (pos y)) (int_div (cond s (negsuc (65535 - x)) (pos x)) (cond t (negsuc (65535 - y)) (pos y))))
    by true true f g =
        let sx : suc (65535 - x) ≡ 65536 - x = omega (arith, lx) in let sy : suc (65535 - y) ≡ 65536 - y = omega (arith, ly) in
        let n : (65536 - y == 0) ≡ false = grind (arith, nat_tests) in let d = div-le_self (65536 - x) (65536 - y) in let le : 0x8000 ≤ x = grind (arith, nat_tests) in
        rw (n, sx, sy) (omega (arith, d, le))
    by true false f g =
        let sx : suc (65535 - x) ≡ 65536 - x = omega (arith, lx) in let le : 0x8000 ≤ x = grind (arith, nat_tests) in let d = div-le_self (65536 - x) y in
        rw (sx, zero_word y) (zero_or (y == 0) ((65536 - x) / y) (omega (arith, d, le)))
    by false true f g =
        let sy : suc (65535 - y) ≡ 65536 - y = omega (arith, ly) in let n : (65536 - y == 0) ≡ false = grind (arith, nat_tests) in let d = div-le_self x (65536 - y) in
        rw (n, sy) (sym (residue_negated (x / (65536 - y)) (omega (arith, d, lx))))
    by false false f g = let d = div-le_self x y in plain_or (y == 0) (x / y) (omega (arith, d, lx)) ∙ ap (λ b. residue 16 (cond b (pos 0) (pos (x / y)))) (sym (zero_word y))

pub remainder_signed : (x y : ℕ) → x < 0x10000 → y < 0x10000 →
    signed_by (nat_le 0x8000 x) (remainder_of (magnitude_of x) (magnitude_of y)) ≡ residue 16 (unless_zero (wrapped I16 (pos y)) (int_rem (wrapped I16 (pos x)) (wrapped I16 (pos y))))
remainder_signed x y lx ly = rw (signed_word x lx, signed_word y ly) (by (nat_le 0x8000 x) (nat_le 0x8000 y) refl refl)
  where
    by : (s t : Bool) → nat_le 0x8000 x ≡ s → nat_le 0x8000 y ≡ t → signed_by s (remainder_of (cond s (65536 - x) x) (cond t (65536 - y) y)) ≡ residue 16 (unless_zero (cond t (negsuc (65535 - y)) (pos y)) (int_rem (cond s (negsuc (65535 - x)) (pos x)) (cond t (negsuc (65535 - y)) (pos y))))
    by true true f g =
        let sx : suc (65535 - x) ≡ 65536 - x = omega (arith, lx) in let sy : suc (65535 - y) ≡ 65536 - y = omega (arith, ly) in
        let n : (65536 - y == 0) ≡ false = grind (arith, nat_tests) in let d = mod-le (65536 - x) (65536 - y) in let le : 0x8000 ≤ x = grind (arith, nat_tests) in
        rw (n, sx, sy) (sym (residue_negated ((65536 - x) % (65536 - y)) (omega (arith, d, le))))
    by true false f g =
        let sx : suc (65535 - x) ≡ 65536 - x = omega (arith, lx) in let le : 0x8000 ≤ x = grind (arith, nat_tests) in let d = mod-le (65536 - x) y in
        rw (sx, zero_word y) (zero_or (y == 0) ((65536 - x) % y) (omega (arith, d, le)))
    by false true f g =
        let sy : suc (65535 - y) ≡ 65536 - y = omega (arith, ly) in let n : (65536 - y == 0) ≡ false = grind (arith, nat_tests) in let d = mod-le x (65536 - y) in
        rw (n, sy) (omega (arith, d, lx))
    by false false f g = let d = mod-le x y in plain_or (y == 0) (x % y) (omega (arith, d, lx)) ∙ ap (λ b. residue 16 (cond b (pos 0) (pos (x % y)))) (sym (zero_word y))
