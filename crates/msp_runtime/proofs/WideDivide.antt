-- Quotients and remainders of 32 bits: thirty-two turns of restoring division.
use Rattle.std.proofs.Common.{◌≡◌, ◌≢◌, ◌⊎◌, ℕ, zero, suc, ◌+◌, ◌-◌, ◌*◌, ◌/◌, ◌%◌, ◌^◌, ◌==◌, ◌<◌, ◌≤◌, Bool, true, false, cond, not, nat_le, [], ◌∷◌, refl, sym, ap, ◌∙◌, subst, arith, bit_or}
use mathlib.Core.Logic.{inl, inr}
use Rattle.std.proofs.lemmas.Bool.{cases_lt, ne_eqb}
use Rattle.std.proofs.lemmas.Bool.Decides.{eqb_tells, nat_tests}
use Rattle.std.proofs.lemmas.Nat.{le_or_l, le_or_r, mul-le}
use Rattle.std.proofs.Math.Nat.{div-eq_of_lt, mod-eq_of_lt, pow-suc}
use Rattle.nm_base.specs.Lists.{bit}
use Rattle.msp_isa.specs.declared.instr.Cond.TheVariants.{Jc, Jnc, Jne}
use Rattle.msp_isa.specs.declared.instr.Op2.TheVariants as op2
use Rattle.msp430_cpu.specs.Operate.{is_taken, operate}
use Rattle.open_law.specs.Homes.{InRegister, Made, Of}
use Rattle.open_law.proofs.Homes.{flags_carry, flags_zero}
use Rattle.msp_runtime.specs.Code.{Code, Registers, Skip, Times, done, meaning}
use Rattle.msp_runtime.specs.Routines.{add, add_carry, all, compare, count_up, divide_wide, register, set, subtract, subtract_carry}
use Rattle.msp_runtime.proofs.Steps.{Ends, carry_out, does, is_below, least_taken, loops, nothing, skips, then}
use Rattle.msp_runtime.proofs.Divide.{carried, divided, less_again, quotient_of, remainder_of, taken_off, twice}
use Rattle.msp_runtime.proofs.WideProducts.{carry_add, carry_addc, sum_carried, wide}

-- With k turns left, R12 and R13 hold the bits of x that are left, from bit 31 down, above the quotient so far, and R10 and R11 what
-- remains of the bits that were taken
record Dividing (x d0 d1 k : ℕ) (regs : ℕ → ℕ) : Type 0 where
  bits : ℕ
  quotient : ℕ
  behind : ℕ
  n0 : ℕ
  n1 : ℕ
  r0 : ℕ
  r1 : ℕ
  s12 : regs 12 ≡ n0
  s13 : regs 13 ≡ n1
  s14 : regs 14 ≡ d0
  s15 : regs 15 ≡ d1
  s10 : regs 10 ≡ r0
  s11 : regs 11 ≡ r1
  ln0 : n0 < 0x10000
  ln1 : n1 < 0x10000
  lr0 : r0 < 0x10000
  lr1 : r1 < 0x10000
  held : wide n0 n1 ≡ bits * behind + quotient
  less : wide r0 r1 < wide d0 d1
  few : bits < 2 ^ k
  few_quotient : quotient < behind
  whole : 2 ^ k * behind ≡ 0x100000000
  is : x ≡ (wide d0 d1 * quotient + wide r0 r1) * 2 ^ k + bits

-- ---- numbers

below_half : (bits behind quotient p : ℕ) → bits < p → quotient < behind → p * behind ≡ 0x80000000 → bits * behind + quotient < 0x80000000
below_half bits behind quotient p lt lq e = let m = mul-le (suc bits) behind p behind (omega (arith, lt)) (omega arith) in omega (arith, m, e, lq)

top_one : (b behind quotient p : ℕ) → p * behind ≡ 0x80000000 → (p + b) * behind + quotient ≡ 0x80000000 + (b * behind + quotient)
top_one b behind quotient p e = omega (arith, e)

-- ---- a turn, from behind the four additions

abbrev tail : Code
tail = all (Skip Jc (all (compare 15 11 ∷ Skip Jne (compare 14 10) ∷ [])) ∷ Skip Jnc (all (subtract 14 10 ∷ subtract_carry 15 11 ∷ count_up 12 ∷ [])) ∷ [])

abbrev last : Code
last = all (Skip Jnc (all (subtract 14 10 ∷ subtract_carry 15 11 ∷ count_up 12 ∷ [])) ∷ [])

from_true : (b : Bool) → not b ≡ true → b ≡ false
from_true false e = refl
from_true true e = absurd (let z : ⊥ = cc in z)

from_false : (b : Bool) → not b ≡ false → b ≡ true
from_false true e = refl
from_false false e = absurd (let z : ⊥ = cc in z)

module _ (x d0 d1 j b q t behind a0 a1 c0 c1 : ℕ) (ld0 : d0 < 0x10000) (ld1 : d1 < 0x10000) (la0 : a0 < 0x10000) (la1 : a1 < 0x10000) (lc0 : c0 < 0x10000) (lc1 : c1 < 0x10000)
    (held : wide a0 a1 ≡ b * (behind + behind) + (q + q)) (is_even : a0 % 2 ≡ 0) (remains : wide c0 c1 ≡ t % 0x100000000) (small_t : t < wide d0 d1 + wide d0 d1) (few : b < 2 ^ j) (few_q : q < behind) (whole : 2 ^ j * (behind + behind) ≡ 0x100000000)
    (is : x ≡ (wide d0 d1 * q + wide d0 d1 * q + t) * 2 ^ j + b) where
  abbrev d : ℕ
  d = wide d0 d1

  record Facts (s : Registers) : Type 0 where
    e12 : s.regs 12 ≡ a0
    e13 : s.regs 13 ≡ a1
    e14 : s.regs 14 ≡ d0
    e15 : s.regs 15 ≡ d1
    e10 : s.regs 10 ≡ c0
    e11 : s.regs 11 ≡ c1

  abbrev k : ℕ
  k = (c0 + (0x10000 - 1 - d0) + 1) / 0x10000

  abbrev m0 : ℕ
  m0 = (c0 + (0x10000 - 1 - d0) + 1) % 0x10000

  abbrev m1 : ℕ
  m1 = (c1 + (0x10000 - 1 - d1) + k) % 0x10000

  difference : d ≤ t → wide m0 m1 ≡ t - d
  difference le = omega (arith, remains, le, small_t, ld0, ld1, lc0, lc1)

  second : (s : Registers) (is_more : Bool) → is_taken Jnc s.sr ≡ not is_more → (is_more ≡ true → d ≤ t) → (is_more ≡ false → t < d) → Facts s → Ends last s (λ s'. Dividing x d0 d1 j (done op2.Sub (Made 1) 9 s').regs)
  second s is_more e more less f = then (skips (tt, (tt, (tt, tt))) (not is_more) e
      (λ n. let lt = less (from_true is_more n) in nothing (record {
        bits = b;
        quotient = q + q;
        behind = behind + behind;
        n0 = a0;
        n1 = a1;
        r0 = c0;
        r1 = c1;
        s12 = f.e12;
        s13 = f.e13;
        s14 = f.e14;
        s15 = f.e15;
        s10 = f.e10;
        s11 = f.e11;
        ln0 = la0;
        ln1 = la1;
        lr0 = lc0;
        lr1 = lc1;
        held = held;
        less = omega (arith, remains, lt, ld0, ld1);
        few = few;
        few_quotient = omega (arith, few_q);
        whole = whole;
        is = less_again x (d * q) q d t (2 ^ j) b refl is ∙ ap (λ z. (d * (q + q) + z) * 2 ^ j + b) (let z : t ≡ wide c0 c1 = omega (arith, remains, lt, ld0, ld1) in z);
      }))
      (λ n. let le = more (from_false is_more n) in
      let s1 = done op2.Sub (register 14) 10 s in
      let v : s.regs 10 + (0x10000 - 1 - s.regs 14) + 1 ≡ c0 + (0x10000 - 1 - d0) + 1 = ap (λ z. z + (0x10000 - 1 - s.regs 14) + 1) f.e10 ∙ ap (λ z. c0 + (0x10000 - 1 - z) + 1) f.e14 in
      let carry : s1.sr % 2 ≡ k = carry_out s.sr (s.regs 10 + (0x10000 - 1 - s.regs 14) + 1) _ _ _ (omega (arith, v, lc0)) ∙ ap (λ z. z / 0x10000) v in
      nothing (record {
        bits = b;
        quotient = q + q + 1;
        behind = behind + behind;
        n0 = a0 + 1;
        n1 = a1;
        r0 = m0;
        r1 = m1;
        s12 = ap (λ z. (z + 1 + 0) % 0x10000) f.e12 ∙ (let z : (a0 + 1 + 0) % 0x10000 ≡ a0 + 1 = omega (arith, is_even, la0) in z);
        s13 = f.e13;
        s14 = f.e14;
        s15 = f.e15;
        s10 = ap (λ z. z % 0x10000) v;
        s11 = ap (λ z. (z + (0x10000 - 1 - s.regs 15) + s1.sr % 2) % 0x10000) f.e11 ∙ ap (λ z. (c1 + (0x10000 - 1 - z) + s1.sr % 2) % 0x10000) f.e15 ∙ ap (λ z. (c1 + (0x10000 - 1 - d1) + z) % 0x10000) carry;
        ln0 = omega (arith, is_even, la0);
        ln1 = la1;
        lr0 = omega arith;
        lr1 = omega arith;
        held = omega (arith, held);
        less = (let z = difference le in omega (arith, z, small_t, le));
        few = few;
        few_quotient = omega (arith, few_q);
        whole = whole;
        is = taken_off x (d * q) q d t (2 ^ j) b refl le is ∙ ap (λ z. (d * (q + q + 1) + z) * 2 ^ j + b) (sym (difference le));
      })))

  -- where nothing was carried out, the halves are compared
  halves : t < 0x100000000 → (s : Registers) → Facts s → Ends (all (compare 15 11 ∷ Skip Jne (compare 14 10) ∷ [])) s (λ s'. Ends last s' (λ s''. Dividing x d0 d1 j (done op2.Sub (Made 1) 9 s'').regs))
  halves small s f = by (eqb_tells c1 d1)
    where
      same : wide c0 c1 ≡ t
      same = omega (arith, remains, small)

      s1 : Registers
      s1 = done op2.Cmp (register 15) 11 s

      f1 : Facts s1
      f1 = record { e12 = f.e12; e13 = f.e13; e14 = f.e14; e15 = f.e15; e10 = f.e10; e11 = f.e11 }

      zero_when : is_taken Jne s1.sr ≡ not ((c1 + (0x10000 - 1 - d1) + 1) % 0x10000 == 0)
      zero_when = ap not (flags_zero _ _ _ _ _ ∙ ap (λ z. (z + (0x10000 - 1 - s.regs 15) + 1) % 0x10000 == 0) f.e11 ∙ ap (λ z. (c1 + (0x10000 - 1 - z) + 1) % 0x10000 == 0) f.e15)

      by : (((c1 == d1) ≡ true) × (c1 ≡ d1)) ⊎ (((c1 == d1) ≡ false) × (c1 ≢ d1)) → Ends (all (compare 15 11 ∷ Skip Jne (compare 14 10) ∷ [])) s (λ s'. Ends last s' (λ s''. Dividing x d0 d1 j (done op2.Sub (Made 1) 9 s'').regs))
      by (inl u) =
          let e = u.1 in
          let s2 = done op2.Cmp (register 14) 10 s1 in
          let z : (c1 + (0x10000 - 1 - d1) + 1) % 0x10000 ≡ 0 = omega (arith, e, ld1) in
          then (does (then (skips tt false (zero_when ∙ ap (λ n. not (n == 0)) z) (λ n. absurd (let y : ⊥ = cc in y)) (λ n. nothing
          (second s2 (nat_le d0 c0) (ap (λ m. is_taken Jnc (operate op2.Cmp false s1.sr m (s.regs 10)).sr) f.e14 ∙ least_taken s1.sr d0 (s.regs 10) ld0 ∙ ap (λ m. not (nat_le d0 m)) f.e10)
          (λ v. let le : d0 ≤ c0 = grind (arith, nat_tests) in omega (arith, le, same, e)) (λ v. let lt : c0 < d0 = grind (arith, nat_tests) in omega (arith, lt, same, e))
          (record { e12 = f.e12; e13 = f.e13; e14 = f.e14; e15 = f.e15; e10 = f.e10; e11 = f.e11 }))))))
      by (inr u) =
          let ne : (c1 + (0x10000 - 1 - d1) + 1) % 0x10000 ≢ 0 = λ e. u.1 (omega (arith, e, ld1, lc1)) in
          let z : ((c1 + (0x10000 - 1 - d1) + 1) % 0x10000 == 0) ≡ false = ne_eqb ((c1 + (0x10000 - 1 - d1) + 1) % 0x10000) 0 ne in
          then (does (then (skips tt true (zero_when ∙ ap not z) (λ n. nothing
          (second s1 (nat_le d1 c1) (ap (λ m. is_taken Jnc (operate op2.Cmp false s.sr m (s.regs 11)).sr) f.e15 ∙ least_taken s.sr d1 (s.regs 11) ld1 ∙ ap (λ m. not (nat_le d1 m)) f.e11)
          (λ v. let le : d1 ≤ c1 = grind (arith, nat_tests) in let lt : d1 < c1 = by_ne le u.1 in omega (arith, lt, same, ld0)) (λ v. let lt : c1 < d1 = grind (arith, nat_tests) in omega (arith, lt, same, lc0)) f1))
          (λ n. absurd (let y : ⊥ = cc in y)))))
        where
          by_ne : d1 ≤ c1 → c1 ≢ d1 → d1 < c1
          by_ne le ne' = strict (cases_lt d1 c1)
            where
              strict : (d1 < c1) ⊎ (c1 ≤ d1) → d1 < c1
              strict (inl l) = l
              strict (inr l) = absurd (ne' (omega (arith, le, l)))

  tested : (s : Registers) → Facts s → bit s.sr 0 ≡ nat_le 0x100000000 t → Ends tail s (λ s'. Dividing x d0 d1 j (done op2.Sub (Made 1) 9 s').regs)
  tested s f carry = then (record { bounded = (tt, (tt, tt)); after = by (nat_le 0x100000000 t) refl })
    where
      by : (u : Bool) → nat_le 0x100000000 t ≡ u → Ends last (meaning (Skip Jc (all (compare 15 11 ∷ Skip Jne (compare 14 10) ∷ []))) s) (λ s'. Dividing x d0 d1 j (done op2.Sub (Made 1) 9 s').regs)
      by true e = subst (λ u. Ends last (cond u s (meaning (all (compare 15 11 ∷ Skip Jne (compare 14 10) ∷ [])) s)) (λ s'. Dividing x d0 d1 j (done op2.Sub (Made 1) 9 s').regs)) (sym (carry ∙ e))
          (second s true (ap not (carry ∙ e)) (λ u. let l : 0x100000000 ≤ t = grind (arith, nat_tests) in omega (arith, l, ld0, ld1)) (λ u. absurd (let z : ⊥ = cc in z)) f)
      by false e = subst (λ u. Ends last (cond u s (meaning (all (compare 15 11 ∷ Skip Jne (compare 14 10) ∷ [])) s)) (λ s'. Dividing x d0 d1 j (done op2.Sub (Made 1) 9 s').regs)) (sym (carry ∙ e))
          (halves (grind (arith, nat_tests)) s f).after

divide_turn : (x d0 d1 : ℕ) → d0 < 0x10000 → d1 < 0x10000 → (j : ℕ) (s : Registers) → Dividing x d0 d1 (suc j) s.regs →
    Ends (all (add 12 12 ∷ add_carry 13 13 ∷ add_carry 10 10 ∷ add_carry 11 11 ∷ Skip Jc (all (compare 15 11 ∷ Skip Jne (compare 14 10) ∷ [])) ∷ Skip Jnc (all (subtract 14 10 ∷ subtract_carry 15 11 ∷ count_up 12 ∷ [])) ∷ [])) s (λ s'. Dividing x d0 d1 j (done op2.Sub (Made 1) 9 s').regs)
divide_turn x d0 d1 ld0 ld1 j s g = by (cases_lt g.bits p)
  where
    p : ℕ
    p = 2 ^ j

    power : 2 ^ suc j ≡ p * 2
    power = pow-suc 2 j

    n : ℕ
    n = wide g.n0 g.n1

    half : p * g.behind ≡ 0x80000000
    half = let w = ap (λ y. y * g.behind) (sym power) ∙ g.whole in omega (arith, w)

    wider : p * (g.behind + g.behind) ≡ 0x100000000
    wider = let h = half in omega (arith, h)

    is : x ≡ (wide d0 d1 * g.quotient + wide g.r0 g.r1) * (p * 2) + g.bits
    is = g.is ∙ ap (λ y. (wide d0 d1 * g.quotient + wide g.r0 g.r1) * y + g.bits) power

    -- the top bit c, and the bits b below it
    step : (c b : ℕ) → c ≤ 1 → b < p → g.bits ≡ c * p + b → (n + n) % 0x100000000 ≡ b * (g.behind + g.behind) + (g.quotient + g.quotient) → (n + n) / 0x100000000 ≡ c →
        Ends (all (add 12 12 ∷ add_carry 13 13 ∷ add_carry 10 10 ∷ add_carry 11 11 ∷ Skip Jc (all (compare 15 11 ∷ Skip Jne (compare 14 10) ∷ [])) ∷ Skip Jnc (all (subtract 14 10 ∷ subtract_carry 15 11 ∷ count_up 12 ∷ [])) ∷ [])) s (λ s'. Dividing x d0 d1 j (done op2.Sub (Made 1) 9 s').regs)
    step c b lc lb split low high =
        let n0 = g.n0 in let n1 = g.n1 in let r0 = g.r0 in let r1 = g.r1 in let l0 = g.ln0 in let l1 = g.ln1 in let m0 = g.lr0 in let m1 = g.lr1 in
        let t = wide r0 r1 + wide r0 r1 + c in
        let lr = g.less in
        let k1 = (n0 + n0 + 0) / 0x10000 in let k2 = (n1 + n1 + k1) / 0x10000 in let k3 = (r0 + r0 + k2) / 0x10000 in
        let s1 = done op2.Add (Of (InRegister 12)) 12 s in
        let s2 = done op2.Addc (Of (InRegister 13)) 13 s1 in
        let s3 = done op2.Addc (Of (InRegister 10)) 10 s2 in
        let s4 = done op2.Addc (Of (InRegister 11)) 11 s3 in
        let e1 : s1.sr % 2 ≡ k1 = carry_add s.sr (s.regs 12) (s.regs 12) n0 n0 g.s12 g.s12 l0 l0 in
        let e2 : s2.sr % 2 ≡ k2 = carry_addc s1.sr (s.regs 13) 0 n1 k1 g.s13 e1 l1 (omega (arith, l0)) in
        let e3 : s3.sr % 2 ≡ k3 = carry_addc s2.sr (s.regs 10) 0 r0 k2 g.s10 e2 m0 (omega (arith, l0, l1)) in
        let top : s.regs 11 + s.regs 11 + s3.sr % 2 ≡ r1 + r1 + k3 = sum_carried (s.regs 11) (s.regs 11) (s3.sr % 2) r1 r1 k3 g.s11 g.s11 e3 in
        let same_c : k2 ≡ c = omega (arith, high, l0, l1) in
        let whole : x ≡ (wide d0 d1 * g.quotient + wide d0 d1 * g.quotient + t) * p + b = carried x (wide d0 d1 * g.quotient) (wide r0 r1) p c b (is ∙ ap (λ m. (wide d0 d1 * g.quotient + wide r0 r1) * (p * 2) + m) split) in
        let carry : nat_le 0x10000 (r1 + r1 + k3) ≡ nat_le 0x100000000 t = carries r0 r1 k2 c m0 same_c in
        then (does (then (does (then (does (then (does (tested x d0 d1 j b g.quotient t g.behind ((n0 + n0 + 0) % 0x10000) ((n1 + n1 + k1) % 0x10000) ((r0 + r0 + k2) % 0x10000) ((r1 + r1 + k3) % 0x10000) ld0 ld1 (omega arith) (omega arith) (omega arith) (omega arith)
        ((let z : wide ((n0 + n0 + 0) % 0x10000) ((n1 + n1 + k1) % 0x10000) ≡ (n + n) % 0x100000000 = omega (arith, l0, l1) in z) ∙ low) (omega (arith, l0)) (omega (arith, same_c, m0, m1, l0, l1)) (omega (arith, lr, lc)) lb g.few_quotient wider whole s4
        (record {
          e12 = ap (λ z. (z + z + 0) % 0x10000) g.s12;
          e13 = ap (λ z. z % 0x10000) (sum_carried (s.regs 13) (s.regs 13) (s1.sr % 2) n1 n1 k1 g.s13 g.s13 e1);
          e14 = g.s14;
          e15 = g.s15;
          e10 = ap (λ z. z % 0x10000) (sum_carried (s.regs 10) (s.regs 10) (s2.sr % 2) r0 r0 k2 g.s10 g.s10 e2);
          e11 = ap (λ z. z % 0x10000) top;
        })
        (flags_carry _ _ _ _ _ ∙ ap (nat_le 0x10000) top ∙ carry)))))))))
      where
        carries : (r0 r1 k c : ℕ) → r0 < 0x10000 → k ≡ c → nat_le 0x10000 (r1 + r1 + (r0 + r0 + k) / 0x10000) ≡ nat_le 0x100000000 (wide r0 r1 + wide r0 r1 + c)
        carries r0 r1 k c l e = by' (nat_le 0x10000 (r1 + r1 + (r0 + r0 + k) / 0x10000)) refl
          where
            by' : (u : Bool) → nat_le 0x10000 (r1 + r1 + (r0 + r0 + k) / 0x10000) ≡ u → u ≡ nat_le 0x100000000 (wide r0 r1 + wide r0 r1 + c)
            by' true f = let le : 0x10000 ≤ r1 + r1 + (r0 + r0 + k) / 0x10000 = grind (arith, nat_tests) in let m : 0x100000000 ≤ wide r0 r1 + wide r0 r1 + c = omega (arith, le, e) in grind (arith, nat_tests)
            by' false f = let lt : r1 + r1 + (r0 + r0 + k) / 0x10000 < 0x10000 = grind (arith, nat_tests) in let m : wide r0 r1 + wide r0 r1 + c < 0x100000000 = omega (arith, lt, e) in grind (arith, nat_tests)

    by : (g.bits < p) ⊎ (p ≤ g.bits) → Ends (all (add 12 12 ∷ add_carry 13 13 ∷ add_carry 10 10 ∷ add_carry 11 11 ∷ Skip Jc (all (compare 15 11 ∷ Skip Jne (compare 14 10) ∷ [])) ∷ Skip Jnc (all (subtract 14 10 ∷ subtract_carry 15 11 ∷ count_up 12 ∷ [])) ∷ [])) s (λ s'. Dividing x d0 d1 j (done op2.Sub (Made 1) 9 s').regs)
    by (inl lt) =
        let held = g.held in
        let h = below_half g.bits g.behind g.quotient p lt g.few_quotient half in
        let w = twice g.bits g.behind g.quotient n held in
        step 0 g.bits (omega arith) lt (omega arith) (omega (arith, h, w, held)) (omega (arith, h, held))
    by (inr le) =
        let held = g.held in
        let b = g.bits - p in
        let back : g.bits ≡ p + b = omega (arith, le) in
        let lb : b < p = let f = g.few in omega (arith, f, power, back) in
        let h = below_half b g.behind g.quotient p lb g.few_quotient half in
        let e : n ≡ 0x80000000 + (b * g.behind + g.quotient) = held ∙ ap (λ m. m * g.behind + g.quotient) back ∙ top_one b g.behind g.quotient p half in
        let w = twice b g.behind g.quotient (b * g.behind + g.quotient) refl in
        step 1 b (omega arith) lb (omega (arith, back)) (omega (arith, h, w, e)) (omega (arith, h, e))

-- ---- all turns

pub record IsDivided (x d : ℕ) (s : Registers) : Type 0 where
  pub q0 : ℕ
  pub q1 : ℕ
  pub r0 : ℕ
  pub r1 : ℕ
  pub s12 : s.regs 12 ≡ q0
  pub s13 : s.regs 13 ≡ q1
  pub s10 : s.regs 10 ≡ r0
  pub s11 : s.regs 11 ≡ r1
  pub lq0 : q0 < 0x10000
  pub lq1 : q1 < 0x10000
  pub lr0 : r0 < 0x10000
  pub lr1 : r1 < 0x10000
  pub quotient : wide q0 q1 ≡ quotient_of x d
  pub remainder : wide r0 r1 ≡ remainder_of x d

by_other : (st : Registers) (x0 x1 d0 d1 y e : ℕ) → st.regs 12 ≡ x0 → x0 < 0x10000 → st.regs 13 ≡ x1 → x1 < 0x10000 → st.regs 14 ≡ d0 → d0 < 0x10000 → st.regs 15 ≡ d1 → d1 < 0x10000 → 0 < wide d0 d1 →
    wide x0 x1 / wide d0 d1 ≡ quotient_of y e → wide x0 x1 % wide d0 d1 ≡ remainder_of y e →
    Ends (all (set 0 10 ∷ set 0 11 ∷ set 32 9 ∷ Times 32 9 (all (add 12 12 ∷ add_carry 13 13 ∷ add_carry 10 10 ∷ add_carry 11 11 ∷ Skip Jc (all (compare 15 11 ∷ Skip Jne (compare 14 10) ∷ [])) ∷ Skip Jnc (all (subtract 14 10 ∷ subtract_carry 15 11 ∷ count_up 12 ∷ [])) ∷ [])) ∷ [])) st (IsDivided y e)
by_other st x0 x1 d0 d1 y e e12 l12 e13 l13 e14 l14 e15 l15 some eq er =
    let x = wide x0 x1 in
    then (does (then (does (then (does (then (loops (Dividing x d0 d1) 32 refl (omega arith)
    (record {
      bits = x;
      quotient = 0;
      behind = 1;
      n0 = x0;
      n1 = x1;
      r0 = 0;
      r1 = 0;
      s12 = e12;
      s13 = e13;
      s14 = e14;
      s15 = e15;
      s10 = refl;
      s11 = refl;
      ln0 = l12;
      ln1 = l13;
      lr0 = omega arith;
      lr1 = omega arith;
      held = omega arith;
      less = some;
      few = omega (arith, l12, l13);
      few_quotient = omega arith;
      whole = refl;
      is = omega arith;
    })
    (divide_turn x d0 d1 l14 l15)
    (λ s g. nothing (
    let none : g.bits ≡ 0 = let f = g.few in omega (arith, f) in
    let i : x ≡ wide d0 d1 * g.quotient + wide g.r0 g.r1 = let e = g.is in omega (arith, e, none) in
    let u = divided x (wide d0 d1) g.quotient (wide g.r0 g.r1) g.less i in
    record {
      q0 = g.n0;
      q1 = g.n1;
      r0 = g.r0;
      r1 = g.r1;
      s12 = g.s12;
      s13 = g.s13;
      s10 = g.s10;
      s11 = g.s11;
      lq0 = g.ln0;
      lq1 = g.ln1;
      lr0 = g.lr0;
      lr1 = g.lr1;
      quotient = g.held ∙ ap (λ m. m * g.behind + g.quotient) none ∙ (let z : 0 * g.behind + g.quotient ≡ g.quotient = omega arith in z) ∙ u.0 ∙ eq;
      remainder = u.1 ∙ er;
    })))))))))

pub divide_wide_does : (st : Registers) (x0 x1 d0 d1 : ℕ) → st.regs 12 ≡ x0 → x0 < 0x10000 → st.regs 13 ≡ x1 → x1 < 0x10000 → st.regs 14 ≡ d0 → d0 < 0x10000 → st.regs 15 ≡ d1 → d1 < 0x10000 → Ends divide_wide st (IsDivided (wide x0 x1) (wide d0 d1))
divide_wide_does st x0 x1 d0 d1 e12 l12 e13 l13 e14 l14 e15 l15 =
    let x = wide x0 x1 in let d = wide d0 d1 in
    let both : bit_or (st.regs 14) (st.regs 15) ≡ bit_or d0 d1 = ap (λ n. bit_or n (st.regs 15)) e14 ∙ ap (bit_or d0) e15 in
    let a = le_or_l d0 d1 in let b = le_or_r d0 d1 in
    then (does (then (does (then (is_below 1 (bit_or d0 d1) refl (omega arith) both (tt, (tt, (tt, tt)))
    (λ lt. let z : (d == 0) ≡ true = let n : d ≡ 0 = omega (arith, lt, a, b) in ap (λ m. m == 0) n in
    by_other _ 0 0 1 d1 x d refl (omega arith) refl (omega arith) refl (omega arith) e15 l15 (omega arith) (none_quotient d1 ∙ ap (λ b. cond b 0 (x / d)) (sym z)) (none_remainder d1 ∙ ap (λ b. cond b 0 (x % d)) (sym z)))
    (λ le. let some : 0 < d = positive d0 d1 le in let z : (d == 0) ≡ false = grind (arith, nat_tests) in
    by_other _ x0 x1 d0 d1 x d e12 l12 e13 l13 e14 l14 e15 l15 some (ap (λ b. cond b 0 (x / d)) (sym z)) (ap (λ b. cond b 0 (x % d)) (sym z))))))))
  where
    none_quotient : (h : ℕ) → wide 0 0 / wide 1 h ≡ 0
    none_quotient h = div-eq_of_lt (omega arith)

    none_remainder : (h : ℕ) → wide 0 0 % wide 1 h ≡ 0
    none_remainder h = mod-eq_of_lt (omega arith)

    positive : (a b : ℕ) → 1 ≤ bit_or a b → 0 < wide a b
    positive zero b le = omega (arith, le)
    positive (suc a) b le = omega arith
