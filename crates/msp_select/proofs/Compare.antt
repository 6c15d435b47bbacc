-- What CMP tells of two words.
use Rattle.std.proofs.Common.{◌≡◌, ⊎_elim, ℕ, pos, negsuc, ◌+◌, ◌-◌, ◌/◌, ◌%◌, ◌<◌, ◌≤◌, ◌==◌, ◌&&◌, Bool, true, false, not, nat_lt, nat_le, refl, sym, ap, ◌∙◌, arith}
use Rattle.std.proofs.lemmas.Int.{ints}
use Rattle.std.specs.Prelude.{int_lt, if◌then◌else◌, ◌-ℤ◌}
use Rattle.std.proofs.lemmas.Bool.{eq-eqb, ne_eqb}
use Rattle.std.proofs.lemmas.Bool.Decides.{nat_tests, eqb_tells}
use Rattle.nm_base.specs.Lists.{bit}
use Rattle.nm_base.specs.declared.int_type.IntType.TheVariants.{I16}
use Rattle.nm_base.specs.IntType.{wrapped, signed_part}
use Rattle.msp_isa.specs.declared.instr.Op2.TheVariants as op2
use Rattle.msp430_cpu.specs.Operate.{differ, is_taken, operate}
use Rattle.mid_code.specs.declared.instr.Test.{Test}
use Rattle.mid_code.specs.declared.instr.Test.TheVariants as test
use Rattle.mid_code.specs.Words.{holds}
use Rattle.open_law.proofs.Homes.{flags_zero, flags_carry, flags_negative, flags_overflow}
use Rattle.msp_select.specs.Select.{is_turned, taken_by}

-- ---- signed numbers

top_low : (n : ℕ) → n < 32768 → bit n 15 ≡ false
top_low n lt = let e : n / 32768 % 2 ≡ 0 = omega arith in ap (λ x. x == 1) e

top_high : (n : ℕ) → 32768 ≤ n → n < 65536 → bit n 15 ≡ true
top_high n le lt = let e : n / 32768 % 2 ≡ 1 = omega arith in ap (λ x. x == 1) e

low_half : (n : ℕ) → n < 32768 → wrapped I16 (pos n) ≡ pos n
low_half n lt =
    let e : n % 65536 ≡ n = omega arith in
    let t : nat_lt n 32768 ≡ true = grind (arith, nat_tests) in
    ap (λ m. signed_part (pos m) (pos 32768)) e ∙ ap (λ b. if b then pos n else pos n -ℤ pos 32768 -ℤ pos 32768) t

high_half : (n : ℕ) → 32768 ≤ n → n < 65536 → wrapped I16 (pos n) ≡ negsuc (65535 - n)
high_half n le lt =
    let e : n % 65536 ≡ n = omega arith in
    let t : nat_lt n 32768 ≡ false = grind (arith, nat_tests) in
    let g : pos n -ℤ pos 32768 -ℤ pos 32768 ≡ negsuc (65535 - n) = omega (arith, ints, le, lt) in
    ap (λ m. signed_part (pos m) (pos 32768)) e ∙ ap (λ b. if b then pos n else pos n -ℤ pos 32768 -ℤ pos 32768) t ∙ g

-- N and V behind CMP
abbrev less_by : (top_d top_s top_r : Bool) → Bool
less_by top_d top_s top_r = differ top_r (not (differ top_d top_s) && differ top_r top_d)

less_same : (r : Bool) → less_by false true r ≡ r
less_same true = refl
less_same false = refl

less_same_high : (r : Bool) → less_by true false r ≡ r
less_same_high true = refl
less_same_high false = refl

less_never : (r : Bool) → less_by false false r ≡ false
less_never true = refl
less_never false = refl

less_always : (r : Bool) → less_by true true r ≡ true
less_always true = refl
less_always false = refl

-- the top bit of a difference of numbers of one half
top_of : (d s : ℕ) → d < 65536 → s < 65536 → d < s + 32768 → s < d + 32768 → (t : Bool) → nat_lt d s ≡ t → bit ((d + (65536 - 1 - s) + 1) % 65536) 15 ≡ t
top_of d s ld ls near near' true e = let lt : d < s = grind (arith, nat_tests) in top_high ((d + (65536 - 1 - s) + 1) % 65536) (omega (arith, lt)) (omega arith)
top_of d s ld ls near near' false e = let le : s ≤ d = grind (arith, nat_tests) in top_low ((d + (65536 - 1 - s) + 1) % 65536) (omega (arith, le))

signed_less : (d s : ℕ) → d < 65536 → s < 65536 → less_by (bit d 15) (bit (65536 - 1 - s) 15) (bit ((d + (65536 - 1 - s) + 1) % 65536) 15) ≡ int_lt (wrapped I16 (pos d)) (wrapped I16 (pos s))
signed_less d s ld ls = by (nat_lt d 32768) refl (nat_lt s 32768) refl
  where
    r : Bool
    r = bit ((d + (65536 - 1 - s) + 1) % 65536) 15

    by : (td : Bool) → nat_lt d 32768 ≡ td → (ts : Bool) → nat_lt s 32768 ≡ ts → less_by (bit d 15) (bit (65536 - 1 - s) 15) (bit ((d + (65536 - 1 - s) + 1) % 65536) 15) ≡ int_lt (wrapped I16 (pos d)) (wrapped I16 (pos s))
    by true e true f =
        let hd : d < 32768 = grind (arith, nat_tests) in
        let hs : s < 32768 = grind (arith, nat_tests) in
        rw (top_low d hd, top_high (65536 - 1 - s) (omega (arith, hs)) (omega arith), low_half d hd, low_half s hs) (less_same (bit ((d + (65536 - 1 - s) + 1) % 65536) 15) ∙ top_of d s ld ls (omega (arith, hd)) (omega (arith, hs)) (nat_lt d s) refl)
    by true e false f =
        let hd : d < 32768 = grind (arith, nat_tests) in
        let hs : 32768 ≤ s = grind (arith, nat_tests) in
        rw (top_low d hd, top_low (65536 - 1 - s) (omega (arith, hs)), low_half d hd, high_half s hs ls) (less_never (bit ((d + (65536 - 1 - s) + 1) % 65536) 15))
    by false e true f =
        let hd : 32768 ≤ d = grind (arith, nat_tests) in
        let hs : s < 32768 = grind (arith, nat_tests) in
        rw (top_high d hd ld, top_high (65536 - 1 - s) (omega (arith, hs)) (omega arith), high_half d hd ld, low_half s hs) (less_always (bit ((d + (65536 - 1 - s) + 1) % 65536) 15))
    by false e false f =
        let hd : 32768 ≤ d = grind (arith, nat_tests) in
        let hs : 32768 ≤ s = grind (arith, nat_tests) in
        let back : nat_lt d s ≡ nat_lt (65535 - s) (65535 - d) = grind (arith, nat_tests) in
        rw (top_high d hd ld, top_low (65536 - 1 - s) (omega (arith, hs)), high_half d hd ld, high_half s hs ls) (less_same_high (bit ((d + (65536 - 1 - s) + 1) % 65536) 15) ∙ top_of d s ld ls (omega (arith, hs, ld)) (omega (arith, hd, ls)) (nat_lt d s) refl ∙ back)

-- ---- all tests

cmp_same : (d s : ℕ) → d < 65536 → s < 65536 → ((d + (65536 - 1 - s) + 1) % 65536 == 0) ≡ (d == s)
cmp_same d s ld ls = ⊎_elim
    (λ y. let e = y.1 in eq-eqb ((d + (65536 - 1 - s) + 1) % 65536) 0 (omega (arith, e)) ∙ sym y.0)
    (λ y. ne_eqb ((d + (65536 - 1 - s) + 1) % 65536) 0 (λ z. y.1 (omega (arith, z))) ∙ sym y.0)
    (eqb_tells d s)

cmp_below : (d s : ℕ) → d < 65536 → s < 65536 → not (nat_le 65536 (d + (65536 - 1 - s) + 1)) ≡ nat_lt d s
cmp_below d s ld ls = grind (arith, nat_tests)

cmp_above : (d s : ℕ) → d < 65536 → s < 65536 → nat_le 65536 (d + (65536 - 1 - s) + 1) ≡ nat_le s d
cmp_above d s ld ls = grind (arith, nat_tests)

cmp_less : (sr d s : ℕ) → d < 65536 → s < 65536 → let x = (operate op2.Cmp false sr s d).sr in differ (bit x 2) (bit x 8) ≡ int_lt (wrapped I16 (pos d)) (wrapped I16 (pos s))
cmp_less sr d s ld ls =
    let x = (operate op2.Cmp false sr s d).sr in
    ap (λ b. differ b (bit x 8)) (flags_negative sr _ _ _ _) ∙ ap (λ b. differ (bit ((d + (65536 - 1 - s) + 1) % 65536) 15) b) (flags_overflow sr _ _ _ _) ∙ signed_less d s ld ls

-- SR behind the comparison of a test's two values
abbrev pub compared_sr : Test → (sr x y : ℕ) → ℕ
compared_sr t sr x y = if is_turned t then (operate op2.Cmp false sr x y).sr else (operate op2.Cmp false sr y x).sr

pub cmp_tells : (t : Test) (sr x y : ℕ) → x < 65536 → y < 65536 → is_taken (taken_by t) (compared_sr t sr x y) ≡ holds t x y
cmp_tells test.Eq sr x y lx ly = flags_zero sr _ _ _ _ ∙ cmp_same x y lx ly
cmp_tells test.Ne sr x y lx ly = ap not (flags_zero sr _ _ _ _ ∙ cmp_same x y lx ly)
cmp_tells test.Lt sr x y lx ly = cmp_less sr x y lx ly
cmp_tells test.Le sr x y lx ly = ap not (cmp_less sr y x ly lx)
cmp_tells test.LtU sr x y lx ly = ap not (flags_carry sr _ _ _ _) ∙ cmp_below x y lx ly
cmp_tells test.LeU sr x y lx ly = flags_carry sr _ _ _ _ ∙ cmp_above y x ly lx
