-- Shifts of 32 bits to the right, and what helpers give of 32 bits.
use Rattle.std.proofs.Common.{◌≡◌, ℕ, zero, suc, ◌+◌, ◌-◌, ◌*◌, ◌/◌, ◌%◌, ◌^◌, ◌<◌, ◌≤◌, Bool, true, false, cond, nat_le, nat_lt, [], ◌∷◌, refl, sym, ap, ◌∙◌, arith}
use Rattle.std.specs.Prelude.{pos, negsuc}
use Rattle.std.proofs.lemmas.Bool.Decides.{nat_tests}
use Rattle.std.proofs.lemmas.Int.{ints}
use Rattle.nm_base.specs.declared.int_type.IntType.TheVariants.{I32, U32}
use Rattle.nm_base.specs.IntType.{signed_part, wrapped}
use Rattle.mid_code.specs.Help.{residue, shifted_right}
use Rattle.msp_runtime.specs.Code.{Registers, Times}
use Rattle.msp_runtime.specs.Routines.{add, add_carry, all, copy, right_turns_wide, set, shift_right_wide, subtract}
use Rattle.msp_runtime.proofs.Steps.{Ends, at_least, does, keeps, loops, nothing, then}
use Rattle.msp_runtime.proofs.Meets.{after}
use Rattle.msp_runtime.proofs.WideProducts.{IsWideNumber, Rising, right_turn, wide}

-- ---- numbers below 32

pub each32 : (P : ℕ → Type 0) → P 0 → P 1 → P 2 → P 3 → P 4 → P 5 → P 6 → P 7 → P 8 → P 9 → P 10 → P 11 → P 12 → P 13 → P 14 → P 15 → P 16 → P 17 → P 18 → P 19 → P 20 → P 21 → P 22 → P 23 → P 24 → P 25 → P 26 → P 27 → P 28 → P 29 → P 30 → P 31 → (n : ℕ) → n < 32 → P n
each32 P p0 p1 p2 p3 p4 p5 p6 p7 p8 p9 p10 p11 p12 p13 p14 p15 p16 p17 p18 p19 p20 p21 p22 p23 p24 p25 p26 p27 p28 p29 p30 p31 zero lt = p0
each32 P p0 p1 p2 p3 p4 p5 p6 p7 p8 p9 p10 p11 p12 p13 p14 p15 p16 p17 p18 p19 p20 p21 p22 p23 p24 p25 p26 p27 p28 p29 p30 p31 (suc zero) lt = p1
each32 P p0 p1 p2 p3 p4 p5 p6 p7 p8 p9 p10 p11 p12 p13 p14 p15 p16 p17 p18 p19 p20 p21 p22 p23 p24 p25 p26 p27 p28 p29 p30 p31 (suc (suc zero)) lt = p2
each32 P p0 p1 p2 p3 p4 p5 p6 p7 p8 p9 p10 p11 p12 p13 p14 p15 p16 p17 p18 p19 p20 p21 p22 p23 p24 p25 p26 p27 p28 p29 p30 p31 (suc (suc (suc zero))) lt = p3
each32 P p0 p1 p2 p3 p4 p5 p6 p7 p8 p9 p10 p11 p12 p13 p14 p15 p16 p17 p18 p19 p20 p21 p22 p23 p24 p25 p26 p27 p28 p29 p30 p31 (suc (suc (suc (suc zero)))) lt = p4
each32 P p0 p1 p2 p3 p4 p5 p6 p7 p8 p9 p10 p11 p12 p13 p14 p15 p16 p17 p18 p19 p20 p21 p22 p23 p24 p25 p26 p27 p28 p29 p30 p31 (suc (suc (suc (suc (suc zero))))) lt = p5
each32 P p0 p1 p2 p3 p4 p5 p6 p7 p8 p9 p10 p11 p12 p13 p14 p15 p16 p17 p18 p19 p20 p21 p22 p23 p24 p25 p26 p27 p28 p29 p30 p31 (suc (suc (suc (suc (suc (suc zero)))))) lt = p6
each32 P p0 p1 p2 p3 p4 p5 p6 p7 p8 p9 p10 p11 p12 p13 p14 p15 p16 p17 p18 p19 p20 p21 p22 p23 p24 p25 p26 p27 p28 p29 p30 p31 (suc (suc (suc (suc (suc (suc (suc zero))))))) lt = p7
each32 P p0 p1 p2 p3 p4 p5 p6 p7 p8 p9 p10 p11 p12 p13 p14 p15 p16 p17 p18 p19 p20 p21 p22 p23 p24 p25 p26 p27 p28 p29 p30 p31 (suc (suc (suc (suc (suc (suc (suc (suc zero)))))))) lt = p8
each32 P p0 p1 p2 p3 p4 p5 p6 p7 p8 p9 p10 p11 p12 p13 p14 p15 p16 p17 p18 p19 p20 p21 p22 p23 p24 p25 p26 p27 p28 p29 p30 p31 (suc (suc (suc (suc (suc (suc (suc (suc (suc zero))))))))) lt = p9
each32 P p0 p1 p2 p3 p4 p5 p6 p7 p8 p9 p10 p11 p12 p13 p14 p15 p16 p17 p18 p19 p20 p21 p22 p23 p24 p25 p26 p27 p28 p29 p30 p31 (suc (suc (suc (suc (suc (suc (suc (suc (suc (suc zero)))))))))) lt = p10
each32 P p0 p1 p2 p3 p4 p5 p6 p7 p8 p9 p10 p11 p12 p13 p14 p15 p16 p17 p18 p19 p20 p21 p22 p23 p24 p25 p26 p27 p28 p29 p30 p31 (suc (suc (suc (suc (suc (suc (suc (suc (suc (suc (suc zero))))))))))) lt = p11
each32 P p0 p1 p2 p3 p4 p5 p6 p7 p8 p9 p10 p11 p12 p13 p14 p15 p16 p17 p18 p19 p20 p21 p22 p23 p24 p25 p26 p27 p28 p29 p30 p31 (suc (suc (suc (suc (suc (suc (suc (suc (suc (suc (suc (suc zero)))))))))))) lt = p12
each32 P p0 p1 p2 p3 p4 p5 p6 p7 p8 p9 p10 p11 p12 p13 p14 p15 p16 p17 p18 p19 p20 p21 p22 p23 p24 p25 p26 p27 p28 p29 p30 p31 (suc (suc (suc (suc (suc (suc (suc (suc (suc (suc (suc (suc (suc zero))))))))))))) lt = p13
each32 P p0 p1 p2 p3 p4 p5 p6 p7 p8 p9 p10 p11 p12 p13 p14 p15 p16 p17 p18 p19 p20 p21 p22 p23 p24 p25 p26 p27 p28 p29 p30 p31 (suc (suc (suc (suc (suc (suc (suc (suc (suc (suc (suc (suc (suc (suc zero)))))))))))))) lt = p14
each32 P p0 p1 p2 p3 p4 p5 p6 p7 p8 p9 p10 p11 p12 p13 p14 p15 p16 p17 p18 p19 p20 p21 p22 p23 p24 p25 p26 p27 p28 p29 p30 p31 (suc (suc (suc (suc (suc (suc (suc (suc (suc (suc (suc (suc (suc (suc (suc zero))))))))))))))) lt = p15
each32 P p0 p1 p2 p3 p4 p5 p6 p7 p8 p9 p10 p11 p12 p13 p14 p15 p16 p17 p18 p19 p20 p21 p22 p23 p24 p25 p26 p27 p28 p29 p30 p31 (suc (suc (suc (suc (suc (suc (suc (suc (suc (suc (suc (suc (suc (suc (suc (suc zero)))))))))))))))) lt = p16
each32 P p0 p1 p2 p3 p4 p5 p6 p7 p8 p9 p10 p11 p12 p13 p14 p15 p16 p17 p18 p19 p20 p21 p22 p23 p24 p25 p26 p27 p28 p29 p30 p31 (suc (suc (suc (suc (suc (suc (suc (suc (suc (suc (suc (suc (suc (suc (suc (suc (suc zero))))))))))))))))) lt = p17
each32 P p0 p1 p2 p3 p4 p5 p6 p7 p8 p9 p10 p11 p12 p13 p14 p15 p16 p17 p18 p19 p20 p21 p22 p23 p24 p25 p26 p27 p28 p29 p30 p31 (suc (suc (suc (suc (suc (suc (suc (suc (suc (suc (suc (suc (suc (suc (suc (suc (suc (suc zero)))))))))))))))))) lt = p18
each32 P p0 p1 p2 p3 p4 p5 p6 p7 p8 p9 p10 p11 p12 p13 p14 p15 p16 p17 p18 p19 p20 p21 p22 p23 p24 p25 p26 p27 p28 p29 p30 p31 (suc (suc (suc (suc (suc (suc (suc (suc (suc (suc (suc (suc (suc (suc (suc (suc (suc (suc (suc zero))))))))))))))))))) lt = p19
each32 P p0 p1 p2 p3 p4 p5 p6 p7 p8 p9 p10 p11 p12 p13 p14 p15 p16 p17 p18 p19 p20 p21 p22 p23 p24 p25 p26 p27 p28 p29 p30 p31 (suc (suc (suc (suc (suc (suc (suc (suc (suc (suc (suc (suc (suc (suc (suc (suc (suc (suc (suc (suc zero)))))))))))))))))))) lt = p20
each32 P p0 p1 p2 p3 p4 p5 p6 p7 p8 p9 p10 p11 p12 p13 p14 p15 p16 p17 p18 p19 p20 p21 p22 p23 p24 p25 p26 p27 p28 p29 p30 p31 (suc (suc (suc (suc (suc (suc (suc (suc (suc (suc (suc (suc (suc (suc (suc (suc (suc (suc (suc (suc (suc zero))))))))))))))))))))) lt = p21
each32 P p0 p1 p2 p3 p4 p5 p6 p7 p8 p9 p10 p11 p12 p13 p14 p15 p16 p17 p18 p19 p20 p21 p22 p23 p24 p25 p26 p27 p28 p29 p30 p31 (suc (suc (suc (suc (suc (suc (suc (suc (suc (suc (suc (suc (suc (suc (suc (suc (suc (suc (suc (suc (suc (suc zero)))))))))))))))))))))) lt = p22
each32 P p0 p1 p2 p3 p4 p5 p6 p7 p8 p9 p10 p11 p12 p13 p14 p15 p16 p17 p18 p19 p20 p21 p22 p23 p24 p25 p26 p27 p28 p29 p30 p31 (suc (suc (suc (suc (suc (suc (suc (suc (suc (suc (suc (suc (suc (suc (suc (suc (suc (suc (suc (suc (suc (suc (suc zero))))))))))))))))))))))) lt = p23
each32 P p0 p1 p2 p3 p4 p5 p6 p7 p8 p9 p10 p11 p12 p13 p14 p15 p16 p17 p18 p19 p20 p21 p22 p23 p24 p25 p26 p27 p28 p29 p30 p31 (suc (suc (suc (suc (suc (suc (suc (suc (suc (suc (suc (suc (suc (suc (suc (suc (suc (suc (suc (suc (suc (suc (suc (suc zero)))))))))))))))))))))))) lt = p24
each32 P p0 p1 p2 p3 p4 p5 p6 p7 p8 p9 p10 p11 p12 p13 p14 p15 p16 p17 p18 p19 p20 p21 p22 p23 p24 p25 p26 p27 p28 p29 p30 p31 (suc (suc (suc (suc (suc (suc (suc (suc (suc (suc (suc (suc (suc (suc (suc (suc (suc (suc (suc (suc (suc (suc (suc (suc (suc zero))))))))))))))))))))))))) lt = p25
each32 P p0 p1 p2 p3 p4 p5 p6 p7 p8 p9 p10 p11 p12 p13 p14 p15 p16 p17 p18 p19 p20 p21 p22 p23 p24 p25 p26 p27 p28 p29 p30 p31 (suc (suc (suc (suc (suc (suc (suc (suc (suc (suc (suc (suc (suc (suc (suc (suc (suc (suc (suc (suc (suc (suc (suc (suc (suc (suc zero)))))))))))))))))))))))))) lt = p26
each32 P p0 p1 p2 p3 p4 p5 p6 p7 p8 p9 p10 p11 p12 p13 p14 p15 p16 p17 p18 p19 p20 p21 p22 p23 p24 p25 p26 p27 p28 p29 p30 p31 (suc (suc (suc (suc (suc (suc (suc (suc (suc (suc (suc (suc (suc (suc (suc (suc (suc (suc (suc (suc (suc (suc (suc (suc (suc (suc (suc zero))))))))))))))))))))))))))) lt = p27
each32 P p0 p1 p2 p3 p4 p5 p6 p7 p8 p9 p10 p11 p12 p13 p14 p15 p16 p17 p18 p19 p20 p21 p22 p23 p24 p25 p26 p27 p28 p29 p30 p31 (suc (suc (suc (suc (suc (suc (suc (suc (suc (suc (suc (suc (suc (suc (suc (suc (suc (suc (suc (suc (suc (suc (suc (suc (suc (suc (suc (suc zero)))))))))))))))))))))))))))) lt = p28
each32 P p0 p1 p2 p3 p4 p5 p6 p7 p8 p9 p10 p11 p12 p13 p14 p15 p16 p17 p18 p19 p20 p21 p22 p23 p24 p25 p26 p27 p28 p29 p30 p31 (suc (suc (suc (suc (suc (suc (suc (suc (suc (suc (suc (suc (suc (suc (suc (suc (suc (suc (suc (suc (suc (suc (suc (suc (suc (suc (suc (suc (suc zero))))))))))))))))))))))))))))) lt = p29
each32 P p0 p1 p2 p3 p4 p5 p6 p7 p8 p9 p10 p11 p12 p13 p14 p15 p16 p17 p18 p19 p20 p21 p22 p23 p24 p25 p26 p27 p28 p29 p30 p31 (suc (suc (suc (suc (suc (suc (suc (suc (suc (suc (suc (suc (suc (suc (suc (suc (suc (suc (suc (suc (suc (suc (suc (suc (suc (suc (suc (suc (suc (suc zero)))))))))))))))))))))))))))))) lt = p30
each32 P p0 p1 p2 p3 p4 p5 p6 p7 p8 p9 p10 p11 p12 p13 p14 p15 p16 p17 p18 p19 p20 p21 p22 p23 p24 p25 p26 p27 p28 p29 p30 p31 (suc (suc (suc (suc (suc (suc (suc (suc (suc (suc (suc (suc (suc (suc (suc (suc (suc (suc (suc (suc (suc (suc (suc (suc (suc (suc (suc (suc (suc (suc (suc zero))))))))))))))))))))))))))))))) lt = p31
each32 P p0 p1 p2 p3 p4 p5 p6 p7 p8 p9 p10 p11 p12 p13 p14 p15 p16 p17 p18 p19 p20 p21 p22 p23 p24 p25 p26 p27 p28 p29 p30 p31 (suc (suc (suc (suc (suc (suc (suc (suc (suc (suc (suc (suc (suc (suc (suc (suc (suc (suc (suc (suc (suc (suc (suc (suc (suc (suc (suc (suc (suc (suc (suc (suc n)))))))))))))))))))))))))))))))) lt = absurd (omega (arith, lt))

-- 64 bits, of which the high half is the sign, so far to the left
abbrev pub risen_wide : (x high n : ℕ) → ℕ
risen_wide x high n = ((x + 0x100000000 * wide high high) * 2 ^ (32 - cond (nat_le 32 n) 32 n) / 0x100000000) % 0x100000000

-- ---- code

right_rest : (st : Registers) (x0 x1 h n result : ℕ) → st.regs 12 ≡ x0 → x0 < 0x10000 → st.regs 13 ≡ x1 → x1 < 0x10000 → st.regs 10 ≡ h → st.regs 11 ≡ h → h < 0x10000 → st.regs 14 ≡ n → n ≤ 32 →
    ((wide x0 x1 + 0x100000000 * wide h h) * 2 ^ (32 - n) / 0x100000000) % 0x100000000 ≡ result →
    Ends (all (set 32 15 ∷ subtract 14 15 ∷ Times 32 15 (all (add 12 12 ∷ add_carry 13 13 ∷ add_carry 10 10 ∷ add_carry 11 11 ∷ [])) ∷ copy 10 12 ∷ copy 11 13 ∷ [])) st (IsWideNumber result)
right_rest st x0 x1 h n result e12 l12 e13 l13 e10 e11 lh en le goal =
    then (does (then (does (then (loops (Rising result) (32 - n) (omega (arith, en, le)) (omega arith)
    (record { a = x0; b = x1; c = h; d = h; s12 = e12; s13 = e13; s10 = e10; s11 = e11; la = l12; lb = l13; lc = lh; ld = lh; goal = goal }) (right_turn result)
    (λ s g. then (does (then (does (nothing (record {
      low = g.c;
      high = g.d;
      in_12 = g.s10;
      in_13 = g.s11;
      small = g.lc;
      small_high = g.ld;
      is = (let a = g.la in let b = g.lb in let c = g.lc in let d = g.ld in let z : (wide g.a g.b + 0x100000000 * wide g.c g.d) * 1 / 0x100000000 % 0x100000000 ≡ wide g.c g.d = omega (arith, a, b, c, d) in sym z) ∙ g.goal;
    })))))))))))

right_count : (st : Registers) (x0 x1 h n : ℕ) → st.regs 12 ≡ x0 → x0 < 0x10000 → st.regs 13 ≡ x1 → x1 < 0x10000 → st.regs 10 ≡ h → h < 0x10000 → st.regs 14 ≡ n → n < 0x10000 →
    Ends right_turns_wide st (IsWideNumber (risen_wide (wide x0 x1) h n))
right_count st x0 x1 h n e12 l12 e13 l13 e10 lh en ln =
    then (does (then (at_least 32 n refl (omega arith) en tt
    (λ le. right_rest _ x0 x1 h 32 (risen_wide (wide x0 x1) h n) e12 l12 e13 l13 e10 e10 lh refl (omega arith) (let t : nat_le 32 n ≡ true = grind (arith, nat_tests) in rw t refl))
    (λ lt. right_rest _ x0 x1 h n (risen_wide (wide x0 x1) h n) e12 l12 e13 l13 e10 e10 lh en (omega (arith, lt)) (let t : nat_le 32 n ≡ false = grind (arith, nat_tests) in rw t refl)))))

abbrev pub above_wide : (is_signed : Bool) → ℕ → ℕ
above_wide is_signed high = cond is_signed (cond (nat_le 0x8000 high) 0xFFFF 0) 0

-- what R12 and R13 hold is there when R10 and R11 have what they had
again : (r : ℕ) (s s' : Registers) → s'.regs 12 ≡ s.regs 12 → s'.regs 13 ≡ s.regs 13 → IsWideNumber r s → IsWideNumber r s'
again r s s' e f w = record { low = w.low; high = w.high; in_12 = e ∙ w.in_12; in_13 = f ∙ w.in_13; small = w.small; small_high = w.small_high; is = w.is }

pub shift_right_wide_does : (is_signed : Bool) (st : Registers) (x0 x1 n : ℕ) → st.regs 12 ≡ x0 → x0 < 0x10000 → st.regs 13 ≡ x1 → x1 < 0x10000 → st.regs 14 ≡ n → n < 0x10000 →
    Ends (shift_right_wide is_signed) st (IsWideNumber (risen_wide (wide x0 x1) (above_wide is_signed x1) n))
shift_right_wide_does false st x0 x1 n e12 l12 e13 l13 en ln =
    keeps (keeps (then (does (after (right_count _ x0 x1 0 n e12 l12 e13 l13 refl (omega arith) en ln) (λ s w. again _ s _ refl refl w)))))
shift_right_wide_does true st x0 x1 n e12 l12 e13 l13 en ln =
    keeps (keeps (then (then (does (then (at_least 0x8000 x1 refl (omega arith) e13 tt
    (λ le. nothing (let t : nat_le 0x8000 x1 ≡ true = grind (arith, nat_tests) in rw t (after (right_count _ x0 x1 0xFFFF n e12 l12 e13 l13 refl (omega arith) en ln) (λ s w. again _ s _ refl refl w))))
    (λ lt. nothing (let t : nat_le 0x8000 x1 ≡ false = grind (arith, nat_tests) in rw t (after (right_count _ x0 x1 0 n e12 l12 e13 l13 refl (omega arith) en ln) (λ s w. again _ s _ refl refl w))))))))))

-- ---- numbers

pub signed_number : (x : ℕ) → x < 0x100000000 → wrapped I32 (pos x) ≡ cond (nat_le 0x80000000 x) (negsuc (4294967295 - x)) (pos x)
signed_number x lt = by (nat_le 0x80000000 x) refl
  where
    same : x % 4294967296 ≡ x
    same = omega (arith, lt)

    by : (b : Bool) → nat_le 0x80000000 x ≡ b → signed_part (pos (x % 4294967296)) (pos 2147483648) ≡ cond b (negsuc (4294967295 - x)) (pos x)
    by true e = let le : 0x80000000 ≤ x = grind (arith, nat_tests) in let t : nat_lt x 2147483648 ≡ false = grind (arith, nat_tests) in rw (same) (rw (t) (omega (arith, ints, le, lt)))
    by false e = let l : x < 0x80000000 = grind (arith, nat_tests) in let t : nat_lt x 2147483648 ≡ true = grind (arith, nat_tests) in rw (same) (rw (t) refl)

pub unsigned_number : (x : ℕ) → x < 0x100000000 → wrapped U32 (pos x) ≡ pos x
unsigned_number x lt = ap pos (let z : x % 4294967296 ≡ x = omega (arith, lt) in z)

pub top_half : (x0 x1 : ℕ) → x0 < 0x10000 → nat_le 0x80000000 (wide x0 x1) ≡ nat_le 0x8000 x1
top_half x0 x1 l0 = by (nat_le 0x8000 x1) refl
  where
    by : (b : Bool) → nat_le 0x8000 x1 ≡ b → nat_le 0x80000000 (wide x0 x1) ≡ b
    by true e = let le : 0x8000 ≤ x1 = grind (arith, nat_tests) in let m : 0x80000000 ≤ wide x0 x1 = omega (arith, le) in grind (arith, nat_tests)
    by false e = let lt : x1 < 0x8000 = grind (arith, nat_tests) in let m : wide x0 x1 < 0x80000000 = omega (arith, lt, l0) in grind (arith, nat_tests)

pub right_unsigned_wide : (x n : ℕ) → x < 0x100000000 → risen_wide x 0 n ≡ residue 32 (shifted_right U32 (wrapped U32 (pos x)) n)
right_unsigned_wide x n lx = by (nat_le 32 n) refl ∙ ap (λ z. residue 32 (shifted_right U32 z n)) (sym (unsigned_number x lx))
  where
    by : (b : Bool) → nat_le 32 n ≡ b → risen_wide x 0 n ≡ residue 32 (shifted_right U32 (pos x) n)
    by true e = let t : nat_lt n 32 ≡ false = grind (arith, nat_tests) in rw (e, t) (omega (arith, lx))
    by false e =
        let lt : n < 32 = grind (arith, nat_tests) in let t : nat_lt n 32 ≡ true = grind (arith, nat_tests) in
        rw (e, t) (each32 (λ k. ((x + 0x100000000 * wide 0 0) * 2 ^ (32 - k) / 0x100000000) % 0x100000000 ≡ (x / 2 ^ k) % 4294967296) (omega arith) (omega arith) (omega arith) (omega arith) (omega arith) (omega arith) (omega arith) (omega arith) (omega arith) (omega arith) (omega arith) (omega arith) (omega arith) (omega arith) (omega arith) (omega arith) (omega arith) (omega arith) (omega arith) (omega arith) (omega arith) (omega arith) (omega arith) (omega arith) (omega arith) (omega arith) (omega arith) (omega arith) (omega arith) (omega arith) (omega arith) (omega arith) n lt)

pub right_signed_wide : (x0 x1 n : ℕ) → x0 < 0x10000 → x1 < 0x10000 → risen_wide (wide x0 x1) (above_wide true x1) n ≡ residue 32 (shifted_right I32 (wrapped I32 (pos (wide x0 x1))) n)
right_signed_wide x0 x1 n l0 l1 = by (nat_le 0x8000 x1) (nat_le 32 n) refl refl ∙ ap (λ z. residue 32 (shifted_right I32 z n)) (sym (signed_number x lx ∙ ap (λ b. cond b (negsuc (4294967295 - x)) (pos x)) (top_half x0 x1 l0)))
  where
    x : ℕ
    x = wide x0 x1

    lx : x < 0x100000000
    lx = omega (arith, l0, l1)

    by : (s b : Bool) → nat_le 0x8000 x1 ≡ s → nat_le 32 n ≡ b → risen_wide x (cond s 0xFFFF 0) n ≡ residue 32 (shifted_right I32 (cond s (negsuc (4294967295 - x)) (pos x)) n)
    by true true f e = let t : nat_lt n 32 ≡ false = grind (arith, nat_tests) in rw (e, t) (omega (arith, lx))
    by false true f e = let t : nat_lt n 32 ≡ false = grind (arith, nat_tests) in rw (e, t) (omega (arith, lx))
    by true false f e =
        let lt : n < 32 = grind (arith, nat_tests) in let t : nat_lt n 32 ≡ true = grind (arith, nat_tests) in
        rw (e, t) (each32 (λ k. ((x + 0x100000000 * wide 0xFFFF 0xFFFF) * 2 ^ (32 - k) / 0x100000000) % 0x100000000 ≡ 4294967296 - 1 - ((4294967295 - x) / 2 ^ k) % 4294967296) (omega arith) (omega arith) (omega arith) (omega arith) (omega arith) (omega arith) (omega arith) (omega arith) (omega arith) (omega arith) (omega arith) (omega arith) (omega arith) (omega arith) (omega arith) (omega arith) (omega arith) (omega arith) (omega arith) (omega arith) (omega arith) (omega arith) (omega arith) (omega arith) (omega arith) (omega arith) (omega arith) (omega arith) (omega arith) (omega arith) (omega arith) (omega arith) n lt)
    by false false f e =
        let lt : n < 32 = grind (arith, nat_tests) in let t : nat_lt n 32 ≡ true = grind (arith, nat_tests) in
        rw (e, t) (each32 (λ k. ((x + 0x100000000 * wide 0 0) * 2 ^ (32 - k) / 0x100000000) % 0x100000000 ≡ (x / 2 ^ k) % 4294967296) (omega arith) (omega arith) (omega arith) (omega arith) (omega arith) (omega arith) (omega arith) (omega arith) (omega arith) (omega arith) (omega arith) (omega arith) (omega arith) (omega arith) (omega arith) (omega arith) (omega arith) (omega arith) (omega arith) (omega arith) (omega arith) (omega arith) (omega arith) (omega arith) (omega arith) (omega arith) (omega arith) (omega arith) (omega arith) (omega arith) (omega arith) (omega arith) n lt)
