-- Quotients and remainders of 32 bits, without and with signs.
use Rattle.std.proofs.Common.{◌≡◌, ℕ, ◌+◌, ◌-◌, ◌%◌, ◌/◌, ◌==◌, ◌<◌, ◌≤◌, Bool, true, false, cond, not, nat_le, [], ◌∷◌, refl, sym, ap, ◌∙◌, arith}
use Rattle.std.proofs.lemmas.Bool.Decides.{nat_tests}
use Rattle.msp_isa.specs.declared.instr.Op2.TheVariants.{Cmp, Mov}
use Rattle.open_law.specs.Homes.{literal}
use Rattle.open_law.proofs.Homes.{flags_zero}
use Rattle.msp_runtime.specs.Code.{Code, Do, Registers, done, leaves, meaning, pushed}
use Rattle.msp_runtime.specs.Routines.{all, count_up, divide_wide, magnitude_wide, negate_wide, quotient_wide, remainder_over, remainder_wide, set, signed_back, subtract}
use Rattle.msp_runtime.proofs.Running.{code_leaves, straight_bounded}
use Rattle.msp_runtime.proofs.Steps.{Ends, at_least, carry_out, does, keeps, nothing, skips, then}
use Rattle.msp_runtime.proofs.Meets.{after}
use Rattle.msp_runtime.proofs.Divide.{quotient_of, remainder_of}
use Rattle.msp_runtime.proofs.GivenWords.{differs}
use Rattle.msp_runtime.proofs.GivenWide.{magnitude_wide_of, negated_wide, signed_by_wide}
use Rattle.msp_runtime.proofs.WideProducts.{IsWideNumber, wide}
use Rattle.msp_runtime.proofs.WideShifts.{top_half}
use Rattle.msp_runtime.proofs.WideDivide.{divide_wide_does}

-- ---- without signs

pub quotient_wide_does : (st : Registers) (x0 x1 d0 d1 : ℕ) → st.regs 12 ≡ x0 → x0 < 0x10000 → st.regs 13 ≡ x1 → x1 < 0x10000 → st.regs 14 ≡ d0 → d0 < 0x10000 → st.regs 15 ≡ d1 → d1 < 0x10000 →
    Ends (quotient_wide false) st (IsWideNumber (quotient_of (wide x0 x1) (wide d0 d1)))
quotient_wide_does st x0 x1 d0 d1 e12 l12 e13 l13 e14 l14 e15 l15 =
    keeps (keeps (keeps (after (divide_wide_does _ x0 x1 d0 d1 e12 l12 e13 l13 e14 l14 e15 l15)
    (λ s d. record { low = d.q0; high = d.q1; in_12 = d.s12; in_13 = d.s13; small = d.lq0; small_high = d.lq1; is = d.quotient }))))

pub remainder_wide_does : (st : Registers) (x0 x1 d0 d1 : ℕ) → st.regs 12 ≡ x0 → x0 < 0x10000 → st.regs 13 ≡ x1 → x1 < 0x10000 → st.regs 14 ≡ d0 → d0 < 0x10000 → st.regs 15 ≡ d1 → d1 < 0x10000 →
    Ends (remainder_wide false) st (IsWideNumber (remainder_of (wide x0 x1) (wide d0 d1)))
remainder_wide_does st x0 x1 d0 d1 e12 l12 e13 l13 e14 l14 e15 l15 =
    keeps (keeps (keeps (then (after (divide_wide_does _ x0 x1 d0 d1 e12 l12 e13 l13 e14 l14 e15 l15)
    (λ s d. then (then (does (then (does (nothing (nothing (record { low = d.r0; high = d.r1; in_12 = d.s10; in_13 = d.s11; small = d.lr0; small_high = d.lr1; is = d.remainder }))))))))))))

-- ---- negative numbers

abbrev low_of : ℕ → ℕ
low_of lo = (0 + (0x10000 - 1 - lo) + 1) % 0x10000

abbrev carry_of : ℕ → ℕ
carry_of lo = (0 + (0x10000 - 1 - lo) + 1) / 0x10000

abbrev high_of : (lo hi : ℕ) → ℕ
high_of lo hi = (0 + (0x10000 - 1 - hi) + carry_of lo) % 0x10000

is_negated : (lo hi : ℕ) → lo < 0x10000 → hi < 0x10000 → wide (low_of lo) (high_of lo hi) ≡ negated_wide (wide lo hi)
is_negated lo hi l0 l1 = omega (arith, l0, l1)

without : (lo hi : ℕ) → lo < 0x10000 → hi < 0x10000 → 0x8000 ≤ hi → wide (low_of lo) (high_of lo hi) ≡ 4294967296 - wide lo hi
without lo hi l0 l1 le = is_negated lo hi l0 l1 ∙ omega (arith, l0, l1, le)

negates_x : (st : Registers) (lo hi : ℕ) → st.regs 12 ≡ lo → st.regs 13 ≡ hi → ((meaning (negate_wide 12 13) st).regs 12 ≡ low_of lo) × ((meaning (negate_wide 12 13) st).regs 13 ≡ high_of lo hi)
negates_x st lo hi e12 e13 =
    let s1 = meaning (all (set 0 10 ∷ set 0 11 ∷ subtract 12 10 ∷ [])) st in
    let c : s1.sr % 2 ≡ carry_of lo = carry_out st.sr (0 + (0x10000 - 1 - st.regs 12) + 1) _ _ _ (omega arith) ∙ ap carry_of e12 in
    (ap low_of e12, ap (λ n. (0 + (0x10000 - 1 - n) + s1.sr % 2) % 0x10000) e13 ∙ ap (λ n. (0 + (0x10000 - 1 - hi) + n) % 0x10000) c)

negates_y : (st : Registers) (lo hi : ℕ) → st.regs 14 ≡ lo → st.regs 15 ≡ hi → ((meaning (negate_wide 14 15) st).regs 14 ≡ low_of lo) × ((meaning (negate_wide 14 15) st).regs 15 ≡ high_of lo hi)
negates_y st lo hi e14 e15 =
    let s1 = meaning (all (set 0 10 ∷ set 0 11 ∷ subtract 14 10 ∷ [])) st in
    let c : s1.sr % 2 ≡ carry_of lo = carry_out st.sr (0 + (0x10000 - 1 - st.regs 14) + 1) _ _ _ (omega arith) ∙ ap carry_of e14 in
    (ap low_of e14, ap (λ n. (0 + (0x10000 - 1 - n) + s1.sr % 2) % 0x10000) e15 ∙ ap (λ n. (0 + (0x10000 - 1 - hi) + n) % 0x10000) c)

-- ---- with signs

onward : {c : Code} {st : Registers} {P Q : Registers → Type 0} → Ends c st P → leaves 8 c ≡ true → ((s : Registers) → P s → s.regs 8 ≡ st.regs 8 → Q s) → Ends c st Q
onward {c} {st} e l more = record { bounded = e.bounded; after = more (meaning c st) e.after (code_leaves c 8 l st) }

-- the sign is put back where R8 holds 1
turned_back : (st : Registers) (m0 m1 c r result : ℕ) (differ : Bool) → st.regs 12 ≡ m0 → m0 < 0x10000 → st.regs 13 ≡ m1 → m1 < 0x10000 → wide m0 m1 ≡ r → st.regs 8 ≡ c → ((c + (0x10000 - 1 - 1) + 1) % 0x10000 == 0) ≡ differ → signed_by_wide differ r ≡ result →
    Ends signed_back st (IsWideNumber result)
turned_back st m0 m1 c r result differ e12 l12 e13 l13 er ec e goal = then (does (then (skips (straight_bounded (negate_wide 12 13) refl (done Cmp (literal 1) 8 st)) (not differ)
    (ap not (flags_zero _ _ _ _ _ ∙ ap (λ n. (n + (0x10000 - 1 - 1) + 1) % 0x10000 == 0) ec ∙ e))
    (λ t. nothing (record { low = m0; high = m1; in_12 = e12; in_13 = e13; small = l12; small_high = l13; is = er ∙ same differ t ∙ goal }))
    (λ t. let n = negates_x (done Cmp (literal 1) 8 st) m0 m1 e12 e13 in
    nothing (record { low = low_of m0; high = high_of m0 m1; in_12 = n.0; in_13 = n.1; small = omega arith; small_high = omega arith; is = is_negated m0 m1 l12 l13 ∙ ap negated_wide er ∙ other differ t ∙ goal })))))
  where
    same : (b : Bool) → not b ≡ true → r ≡ signed_by_wide b r
    same false t = refl
    same true t = absurd (let z : ⊥ = cc in z)

    other : (b : Bool) → not b ≡ false → negated_wide r ≡ signed_by_wide b r
    other true t = refl
    other false t = absurd (let z : ⊥ = cc in z)

module _ (st : Registers) (a0 a1 b0 b1 c result : ℕ) (differ : Bool) (e12 : st.regs 12 ≡ a0) (l12 : a0 < 0x10000) (e13 : st.regs 13 ≡ a1) (l13 : a1 < 0x10000) (e14 : st.regs 14 ≡ b0) (l14 : b0 < 0x10000) (e15 : st.regs 15 ≡ b1) (l15 : b1 < 0x10000)
    (ec : st.regs 8 ≡ c) (e : ((c + (0x10000 - 1 - 1) + 1) % 0x10000 == 0) ≡ differ) where
  quotient_last : signed_by_wide differ (quotient_of (wide a0 a1) (wide b0 b1)) ≡ result → Ends (all (divide_wide ∷ signed_back ∷ [])) st (IsWideNumber result)
  quotient_last goal = then (onward (divide_wide_does st a0 a1 b0 b1 e12 l12 e13 l13 e14 l14 e15 l15) refl
      (λ s d k. then (after (turned_back s d.q0 d.q1 c (quotient_of (wide a0 a1) (wide b0 b1)) result differ d.s12 d.lq0 d.s13 d.lq1 d.quotient (k ∙ ec) e goal) (λ s' w. nothing w))))

  remainder_last : signed_by_wide differ (remainder_of (wide a0 a1) (wide b0 b1)) ≡ result → Ends (all (divide_wide ∷ remainder_over ∷ signed_back ∷ [])) st (IsWideNumber result)
  remainder_last goal = then (onward (divide_wide_does st a0 a1 b0 b1 e12 l12 e13 l13 e14 l14 e15 l15) refl
      (λ s d k. then (then (does (then (does (nothing (then (after (turned_back _ d.r0 d.r1 c (remainder_of (wide a0 a1) (wide b0 b1)) result differ d.s10 d.lr0 d.s11 d.lr1 d.remainder (k ∙ ec) e goal) (λ s' w. nothing w))))))))))

module _ (st : Registers) (a0 a1 y0 y1 : ℕ) (e12 : st.regs 12 ≡ a0) (l12 : a0 < 0x10000) (e13 : st.regs 13 ≡ a1) (l13 : a1 < 0x10000) (e14 : st.regs 14 ≡ y0) (l14 : y0 < 0x10000) (e15 : st.regs 15 ≡ y1) (l15 : y1 < 0x10000) where
  abbrev st' : Registers
  st' = meaning (Do Cmp (literal 0x8000) 15) st

  abbrev counted : Registers
  counted = meaning (all (negate_wide 14 15 ∷ all (count_up 8 ∷ []) ∷ [])) st'

  abbrev plain : Registers
  plain = meaning (all (negate_wide 14 15 ∷ all [] ∷ [])) st'

  turned : ((meaning (negate_wide 14 15) st').regs 14 ≡ low_of y0) × ((meaning (negate_wide 14 15) st').regs 15 ≡ high_of y0 y1)
  turned = negates_y st' y0 y1 e14 e15

  quotient_rest : (one : Bool) → st.regs 8 ≡ cond one 1 0 →
      Ends (all (magnitude_wide true 14 15 ∷ divide_wide ∷ signed_back ∷ [])) st (IsWideNumber (signed_by_wide (differs one (nat_le 0x80000000 (wide y0 y1))) (quotient_of (wide a0 a1) (magnitude_wide_of (wide y0 y1)))))
  quotient_rest one ec =
      then (at_least 0x8000 y1 refl (omega arith) e15 (straight_bounded (all (negate_wide 14 15 ∷ all (count_up 8 ∷ []) ∷ [])) refl st')
      (λ le. let t : nat_le 0x80000000 (wide y0 y1) ≡ true = top_half y0 y1 l14 ∙ grind (arith, nat_tests) in rw t (by_more one ec (without y0 y1 l14 l15 le)))
      (λ lt. let t : nat_le 0x80000000 (wide y0 y1) ≡ false = top_half y0 y1 l14 ∙ grind (arith, nat_tests) in rw t (by_less one ec)))
    where
      by_more : (one : Bool) → st.regs 8 ≡ cond one 1 0 → wide (low_of y0) (high_of y0 y1) ≡ 4294967296 - wide y0 y1 → Ends (all (divide_wide ∷ signed_back ∷ [])) counted (IsWideNumber (signed_by_wide (differs one true) (quotient_of (wide a0 a1) (4294967296 - wide y0 y1))))
      by_more true ec w = quotient_last counted a0 a1 (low_of y0) (high_of y0 y1) 2 _ false e12 l12 e13 l13 turned.0 (omega arith) turned.1 (omega arith) (ap (λ n. (n + 1 + 0) % 0x10000) ec) refl (ap (λ n. quotient_of (wide a0 a1) n) w)
      by_more false ec w = quotient_last counted a0 a1 (low_of y0) (high_of y0 y1) 1 _ true e12 l12 e13 l13 turned.0 (omega arith) turned.1 (omega arith) (ap (λ n. (n + 1 + 0) % 0x10000) ec) refl (ap (λ n. negated_wide (quotient_of (wide a0 a1) n)) w)

      by_less : (one : Bool) → st.regs 8 ≡ cond one 1 0 → Ends (all (divide_wide ∷ signed_back ∷ [])) st' (IsWideNumber (signed_by_wide (differs one false) (quotient_of (wide a0 a1) (wide y0 y1))))
      by_less true ec = quotient_last st' a0 a1 y0 y1 1 _ true e12 l12 e13 l13 e14 l14 e15 l15 ec refl refl
      by_less false ec = quotient_last st' a0 a1 y0 y1 0 _ false e12 l12 e13 l13 e14 l14 e15 l15 ec refl refl

  remainder_rest : (one : Bool) → st.regs 8 ≡ cond one 1 0 →
      Ends (all (magnitude_wide false 14 15 ∷ divide_wide ∷ remainder_over ∷ signed_back ∷ [])) st (IsWideNumber (signed_by_wide one (remainder_of (wide a0 a1) (magnitude_wide_of (wide y0 y1)))))
  remainder_rest one ec =
      then (at_least 0x8000 y1 refl (omega arith) e15 (straight_bounded (all (negate_wide 14 15 ∷ all [] ∷ [])) refl st')
      (λ le. let t : nat_le 0x80000000 (wide y0 y1) ≡ true = top_half y0 y1 l14 ∙ grind (arith, nat_tests) in rw t (by_more one ec (without y0 y1 l14 l15 le)))
      (λ lt. let t : nat_le 0x80000000 (wide y0 y1) ≡ false = top_half y0 y1 l14 ∙ grind (arith, nat_tests) in rw t (by_less one ec)))
    where
      by_more : (one : Bool) → st.regs 8 ≡ cond one 1 0 → wide (low_of y0) (high_of y0 y1) ≡ 4294967296 - wide y0 y1 → Ends (all (divide_wide ∷ remainder_over ∷ signed_back ∷ [])) plain (IsWideNumber (signed_by_wide one (remainder_of (wide a0 a1) (4294967296 - wide y0 y1))))
      by_more true ec w = remainder_last plain a0 a1 (low_of y0) (high_of y0 y1) 1 _ true e12 l12 e13 l13 turned.0 (omega arith) turned.1 (omega arith) ec refl (ap (λ n. negated_wide (remainder_of (wide a0 a1) n)) w)
      by_more false ec w = remainder_last plain a0 a1 (low_of y0) (high_of y0 y1) 0 _ false e12 l12 e13 l13 turned.0 (omega arith) turned.1 (omega arith) ec refl (ap (λ n. remainder_of (wide a0 a1) n) w)

      by_less : (one : Bool) → st.regs 8 ≡ cond one 1 0 → Ends (all (divide_wide ∷ remainder_over ∷ signed_back ∷ [])) st' (IsWideNumber (signed_by_wide one (remainder_of (wide a0 a1) (wide y0 y1))))
      by_less true ec = remainder_last st' a0 a1 y0 y1 1 _ true e12 l12 e13 l13 e14 l14 e15 l15 ec refl refl
      by_less false ec = remainder_last st' a0 a1 y0 y1 0 _ false e12 l12 e13 l13 e14 l14 e15 l15 ec refl refl

module _ (st : Registers) (x0 x1 y0 y1 : ℕ) (e12 : st.regs 12 ≡ x0) (l12 : x0 < 0x10000) (e13 : st.regs 13 ≡ x1) (l13 : x1 < 0x10000) (e14 : st.regs 14 ≡ y0) (l14 : y0 < 0x10000) (e15 : st.regs 15 ≡ y1) (l15 : y1 < 0x10000) where
  -- behind the test of the sign of x
  abbrev tested : Registers
  tested = done Cmp (literal 0x8000) 13 (done Mov (literal 0) 8 (pushed (pushed (pushed (pushed st)))))

  abbrev turned_x : Registers
  turned_x = meaning (all (negate_wide 12 13 ∷ all (count_up 8 ∷ []) ∷ [])) tested

  -- what R12 and R13 hold is there when other registers have what they had
  again : (r : ℕ) (s s' : Registers) → s'.regs 12 ≡ s.regs 12 → s'.regs 13 ≡ s.regs 13 → IsWideNumber r s → IsWideNumber r s'
  again r s s' e f w = record { low = w.low; high = w.high; in_12 = e ∙ w.in_12; in_13 = f ∙ w.in_13; small = w.small; small_high = w.small_high; is = w.is }

  pub quotient_signed_wide_does : Ends (quotient_wide true) st (IsWideNumber (signed_by_wide (differs (nat_le 0x80000000 (wide x0 x1)) (nat_le 0x80000000 (wide y0 y1))) (quotient_of (magnitude_wide_of (wide x0 x1)) (magnitude_wide_of (wide y0 y1)))))
  quotient_signed_wide_does =
      keeps (keeps (keeps (keeps (then (does (then (at_least 0x8000 x1 refl (omega arith) e13 (straight_bounded (all (negate_wide 12 13 ∷ all (count_up 8 ∷ []) ∷ [])) refl tested)
      (λ le. let t : nat_le 0x80000000 (wide x0 x1) ≡ true = top_half x0 x1 l12 ∙ grind (arith, nat_tests) in
      let n = negates_x tested x0 x1 e12 e13 in let w = without x0 x1 l12 l13 le in
      rw (t, sym w) (after (quotient_rest turned_x (low_of x0) (high_of x0 x1) y0 y1 n.0 (omega arith) n.1 (omega arith) e14 l14 e15 l15 true refl) (λ s w. again _ s _ refl refl w)))
      (λ lt. let t : nat_le 0x80000000 (wide x0 x1) ≡ false = top_half x0 x1 l12 ∙ grind (arith, nat_tests) in
      rw t (after (quotient_rest tested x0 x1 y0 y1 e12 l12 e13 l13 e14 l14 e15 l15 false refl) (λ s w. again _ s _ refl refl w))))))))))

  pub remainder_signed_wide_does : Ends (remainder_wide true) st (IsWideNumber (signed_by_wide (nat_le 0x80000000 (wide x0 x1)) (remainder_of (magnitude_wide_of (wide x0 x1)) (magnitude_wide_of (wide y0 y1)))))
  remainder_signed_wide_does =
      keeps (keeps (keeps (keeps (then (does (then (at_least 0x8000 x1 refl (omega arith) e13 (straight_bounded (all (negate_wide 12 13 ∷ all (count_up 8 ∷ []) ∷ [])) refl tested)
      (λ le. let t : nat_le 0x80000000 (wide x0 x1) ≡ true = top_half x0 x1 l12 ∙ grind (arith, nat_tests) in
      let n = negates_x tested x0 x1 e12 e13 in let w = without x0 x1 l12 l13 le in
      rw (t, sym w) (after (remainder_rest turned_x (low_of x0) (high_of x0 x1) y0 y1 n.0 (omega arith) n.1 (omega arith) e14 l14 e15 l15 true refl) (λ s w. again _ s _ refl refl w)))
      (λ lt. let t : nat_le 0x80000000 (wide x0 x1) ≡ false = top_half x0 x1 l12 ∙ grind (arith, nat_tests) in
      rw t (after (remainder_rest tested x0 x1 y0 y1 e12 l12 e13 l13 e14 l14 e15 l15 false refl) (λ s w. again _ s _ refl refl w))))))))))
