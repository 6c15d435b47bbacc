-- Quotients and remainders of 16 bits: sixteen turns of restoring division.
use Rattle.std.proofs.Common.{◌≡◌, ◌⊎◌, ◌==◌, ℕ, suc, ◌+◌, ◌-◌, ◌*◌, ◌/◌, ◌%◌, ◌^◌, ◌<◌, ◌≤◌, Bool, true, false, cond, not, nat_le, [], ◌∷◌, refl, sym, ap, ◌∙◌, arith}
use mathlib.Core.Logic.{inl, inr}
use Rattle.std.proofs.lemmas.Bool.{cases_lt}
use Rattle.std.proofs.lemmas.Bool.Decides.{nat_tests}
use Rattle.std.proofs.lemmas.Nat.{div-mul-add, mod-mul-add, mul-le}
use Rattle.nm_base.specs.Lists.{bit}
use Rattle.std.proofs.Math.Nat.{pow-suc}
use Rattle.msp_isa.specs.declared.instr.Cond.TheVariants.{Jc, Jnc}
use Rattle.msp_isa.specs.declared.instr.Op2.TheVariants as op2
use Rattle.msp430_cpu.specs.Operate.{is_taken, operate}
use Rattle.open_law.specs.Homes.{Made}
use Rattle.open_law.proofs.Homes.{flags_carry}
use Rattle.msp_runtime.specs.Code.{Registers, Skip, Times, done}
use Rattle.msp_runtime.specs.Routines.{add, add_carry, all, compare, count_up, divide, register, set, subtract}
use Rattle.msp_runtime.proofs.Steps.{Ends, carry_out, does, is_below, least_taken, loops, nothing, skips, then}

-- With k turns left, R12 holds the bits of x that are left, from bit 15 down, above the quotient so far, and R14 what remains
-- of the bits that were taken
record Dividing (x d k : ℕ) (regs : ℕ → ℕ) : Type 0 where
  bits : ℕ
  quotient : ℕ
  rest : ℕ
  behind : ℕ
  held : regs 12 ≡ bits * behind + quotient
  divisor : regs 13 ≡ d
  remains : regs 14 ≡ rest
  less : rest < d
  few : bits < 2 ^ k
  few_quotient : quotient < behind
  whole : 2 ^ k * behind ≡ 0x10000
  is : x ≡ (d * quotient + rest) * 2 ^ k + bits

-- ---- numbers

-- bits below a power lie below its share of 2 ^ 15
below_half : (bits behind quotient p : ℕ) → bits < p → quotient < behind → p * behind ≡ 0x8000 → bits * behind + quotient < 0x8000
below_half bits behind quotient p lt lq e = let m = mul-le (suc bits) behind p behind (omega (arith, lt)) (omega arith) in omega (arith, m, e, lq)

top_one : (b behind quotient p : ℕ) → p * behind ≡ 0x8000 → (p + b) * behind + quotient ≡ 0x8000 + (b * behind + quotient)
top_one b behind quotient p e = omega (arith, e)

pub twice : (b behind quotient n : ℕ) → n ≡ b * behind + quotient → n + n ≡ b * (behind + behind) + (quotient + quotient)
twice b behind quotient n e = omega (arith, e)

pub carried : (x m r p c b : ℕ) → x ≡ (m + r) * (p * 2) + (c * p + b) → x ≡ (m + m + (r + r + c)) * p + b
carried x m r p c b e = omega (arith, e)

pub less_again : (x m q d t p b : ℕ) → m ≡ d * q → x ≡ (m + m + t) * p + b → x ≡ (d * (q + q) + t) * p + b
less_again x m q d t p b e f = let g : m + m ≡ d * (q + q) = omega (arith, e) in f ∙ ap (λ n. (n + t) * p + b) g

pub taken_off : (x m q d t p b : ℕ) → m ≡ d * q → d ≤ t → x ≡ (m + m + t) * p + b → x ≡ (d * (q + q + 1) + (t - d)) * p + b
taken_off x m q d t p b e le f = let g : m + m + t ≡ d * (q + q + 1) + (t - d) = omega (arith, e, le) in f ∙ ap (λ n. n * p + b) g

-- ---- a turn

module _ (x d j b q t behind : ℕ) (small_d : d < 0x10000) (small_t : t < d + d) (few : b < 2 ^ j) (few_q : q < behind) (whole : 2 ^ j * (behind + behind) ≡ 0x10000) (is : x ≡ (d * q + d * q + t) * 2 ^ j + b) where
  -- what is held is below 2 ^ 16, and even
  fits : b * (behind + behind) + (q + q) < 0x10000
  fits = let h = below_half b behind q (2 ^ j) few few_q (omega (arith, whole)) in let w = twice b behind q (b * behind + q) refl in omega (arith, h, w)

  second : (s : Registers) (is_more : Bool) → is_taken Jnc s.sr ≡ not is_more → (is_more ≡ true → d ≤ t) → (is_more ≡ false → t < d) → s.regs 12 ≡ b * (behind + behind) + (q + q) → s.regs 13 ≡ d → s.regs 14 ≡ t % 0x10000 →
      Ends (all (Skip Jnc (all (subtract 13 14 ∷ count_up 12 ∷ [])) ∷ [])) s (λ s'. Dividing x d j (done op2.Sub (Made 1) 15 s').regs)
  second s is_more e more less e12 e13 e14 = then (skips (tt, (tt, tt)) (not is_more) e
      (λ n. let lt = less (from_true is_more n) in nothing (record {
        bits = b;
        quotient = q + q;
        rest = t;
        behind = behind + behind;
        held = e12;
        divisor = e13;
        remains = e14 ∙ (let z : t % 0x10000 ≡ t = omega (arith, lt, small_d) in z);
        less = lt;
        few = few;
        few_quotient = omega (arith, few_q);
        whole = whole;
        is = less_again x (d * q) q d t (2 ^ j) b refl is;
      }))
      (λ n. let le = more (from_false is_more n) in nothing (record {
        bits = b;
        quotient = q + q + 1;
        rest = t - d;
        behind = behind + behind;
        held = ap (λ n. (n + 1 + 0) % 0x10000) e12 ∙ (let f = fits in omega (arith, f));
        divisor = e13;
        remains = ap (λ n. (n + (0x10000 - 1 - s.regs 13) + 1) % 0x10000) e14 ∙ ap (λ n. (t % 0x10000 + (0x10000 - 1 - n) + 1) % 0x10000) e13 ∙ (let z : (t % 0x10000 + (0x10000 - 1 - d) + 1) % 0x10000 ≡ t - d = omega (arith, le, small_d, small_t) in z);
        less = omega (arith, le, small_t);
        few = few;
        few_quotient = omega (arith, few_q);
        whole = whole;
        is = taken_off x (d * q) q d t (2 ^ j) b refl le is;
      })))
    where
      from_true : (b : Bool) → not b ≡ true → b ≡ false
      from_true false e = refl
      from_true true e = absurd (let z : ⊥ = cc in z)

      from_false : (b : Bool) → not b ≡ false → b ≡ true
      from_false true e = refl
      from_false false e = absurd (let z : ⊥ = cc in z)

  tested : (s : Registers) → s.regs 12 ≡ b * (behind + behind) + (q + q) → s.regs 13 ≡ d → s.regs 14 ≡ t % 0x10000 → bit s.sr 0 ≡ nat_le 0x10000 t →
      Ends (all (Skip Jc (compare 13 14) ∷ Skip Jnc (all (subtract 13 14 ∷ count_up 12 ∷ [])) ∷ [])) s (λ s'. Dividing x d j (done op2.Sub (Made 1) 15 s').regs)
  tested s e12 e13 e14 carry = then (skips tt (nat_le 0x10000 t) carry
      (λ n. second s true (ap not carry ∙ ap not n) (λ u. let l : 0x10000 ≤ t = grind (arith, nat_tests) in omega (arith, l, small_d)) (λ u. absurd (let z : ⊥ = cc in z)) e12 e13 e14)
      (λ n. let lt : t < 0x10000 = grind (arith, nat_tests) in
      second (done op2.Cmp (register 13) 14 s) (nat_le d t)
      (ap (λ m. is_taken Jnc (operate op2.Cmp false s.sr m (s.regs 14)).sr) e13 ∙ least_taken s.sr d (s.regs 14) small_d ∙ ap (λ m. not (nat_le d m)) (e14 ∙ (let z : t % 0x10000 ≡ t = omega (arith, lt) in z)))
      (λ u. grind (arith, nat_tests)) (λ u. grind (arith, nat_tests)) e12 e13 e14))

divide_turn : (x d : ℕ) → d < 0x10000 → (j : ℕ) (s : Registers) → Dividing x d (suc j) s.regs → Ends (all (add 12 12 ∷ add_carry 14 14 ∷ Skip Jc (compare 13 14) ∷ Skip Jnc (all (subtract 13 14 ∷ count_up 12 ∷ [])) ∷ [])) s (λ s'. Dividing x d j (done op2.Sub (Made 1) 15 s').regs)
divide_turn x d small_d j s g = by (cases_lt g.bits p)
  where
    p : ℕ
    p = 2 ^ j

    power : 2 ^ suc j ≡ p * 2
    power = pow-suc 2 j

    n : ℕ
    n = g.bits * g.behind + g.quotient

    half : p * g.behind ≡ 0x8000
    half = let w = ap (λ y. y * g.behind) (sym power) ∙ g.whole in omega (arith, w)

    wider : p * (g.behind + g.behind) ≡ 0x10000
    wider = let h = half in omega (arith, h)

    is : x ≡ (d * g.quotient + g.rest) * (p * 2) + g.bits
    is = g.is ∙ ap (λ y. (d * g.quotient + g.rest) * y + g.bits) power

    -- the top bit c, and the bits b below it
    step : (c b : ℕ) → c ≤ 1 → b < p → g.bits ≡ c * p + b → (n + n + 0) % 0x10000 ≡ b * (g.behind + g.behind) + (g.quotient + g.quotient) → (n + n + 0) / 0x10000 ≡ c →
        Ends (all (add 12 12 ∷ add_carry 14 14 ∷ Skip Jc (compare 13 14) ∷ Skip Jnc (all (subtract 13 14 ∷ count_up 12 ∷ [])) ∷ [])) s (λ s'. Dividing x d j (done op2.Sub (Made 1) 15 s').regs)
    step c b lc lb split low high =
        let t = g.rest + g.rest + c in
        let lr = g.less in
        let f : n < 0x10000 = (let h = below_half g.bits g.behind g.quotient (p * 2) in let l : g.bits < p * 2 = omega (arith, split, lc, lb) in omega (arith, high, lc)) in
        let e12 = g.held in
        let carry : (operate op2.Add false s.sr (s.regs 12) (s.regs 12)).sr % 2 ≡ c = carry_out s.sr (s.regs 12 + s.regs 12 + 0) _ _ _ (omega (arith, e12, f)) ∙ ap (λ m. (m + m + 0) / 0x10000) e12 ∙ high in
        let total : s.regs 14 + s.regs 14 + (operate op2.Add false s.sr (s.regs 12) (s.regs 12)).sr % 2 ≡ t = ap (λ m. s.regs 14 + s.regs 14 + m) carry ∙ ap (λ m. m + m + c) g.remains in
        let whole : x ≡ (d * g.quotient + d * g.quotient + t) * p + b = carried x (d * g.quotient) g.rest p c b (is ∙ ap (λ m. (d * g.quotient + g.rest) * (p * 2) + m) split) in
        then (does (then (does (tested x d j b g.quotient t g.behind small_d (omega (arith, lr, lc)) lb g.few_quotient wider whole (done op2.Addc (register 14) 14 (done op2.Add (register 12) 12 s))
        (ap (λ m. (m + m + 0) % 0x10000) e12 ∙ low) g.divisor (ap (λ m. m % 0x10000) total) (flags_carry _ _ _ _ _ ∙ ap (nat_le 0x10000) total)))))

    by : (g.bits < p) ⊎ (p ≤ g.bits) → Ends (all (add 12 12 ∷ add_carry 14 14 ∷ Skip Jc (compare 13 14) ∷ Skip Jnc (all (subtract 13 14 ∷ count_up 12 ∷ [])) ∷ [])) s (λ s'. Dividing x d j (done op2.Sub (Made 1) 15 s').regs)
    by (inl lt) =
        let h = below_half g.bits g.behind g.quotient p lt g.few_quotient half in
        let w = twice g.bits g.behind g.quotient n refl in
        step 0 g.bits (omega arith) lt (omega arith) (omega (arith, h, w)) (omega (arith, h))
    by (inr le) =
        let b = g.bits - p in
        let back : g.bits ≡ p + b = omega (arith, le) in
        let lb : b < p = let f = g.few in omega (arith, f, power, back) in
        let h = below_half b g.behind g.quotient p lb g.few_quotient half in
        let e : n ≡ 0x8000 + (b * g.behind + g.quotient) = ap (λ m. m * g.behind + g.quotient) back ∙ top_one b g.behind g.quotient p half in
        let w = twice b g.behind g.quotient (b * g.behind + g.quotient) refl in
        step 1 b (omega arith) lb (omega (arith, back)) (omega (arith, h, w, e)) (omega (arith, h, e))

-- ---- all turns

abbrev pub quotient_of : ℕ → ℕ → ℕ
quotient_of x d = cond (d == 0) 0 (x / d)

abbrev pub remainder_of : ℕ → ℕ → ℕ
remainder_of x d = cond (d == 0) 0 (x % d)

abbrev pub IsDivided : (x d : ℕ) → Registers → Type 0
IsDivided x d s = (s.regs 12 ≡ quotient_of x d) × (s.regs 14 ≡ remainder_of x d)

pub divided : (x d q r : ℕ) → r < d → x ≡ d * q + r → (q ≡ x / d) × (r ≡ x % d)
divided x d q r lt e = let f : x ≡ q * d + r = omega (arith, e) in (sym (ap (λ n. n / d) f ∙ div-mul-add q d r lt), sym (ap (λ n. n % d) f ∙ mod-mul-add q d r lt))

-- by a divisor that is not 0
by_other : (st : Registers) (x d : ℕ) (P : Registers → Type 0) → st.regs 12 ≡ x → x < 0x10000 → st.regs 13 ≡ d → d < 0x10000 → 0 < d → ((s : Registers) → s.regs 12 ≡ x / d → s.regs 14 ≡ x % d → P s) →
    Ends (all (set 0 14 ∷ set 16 15 ∷ Times 16 15 (all (add 12 12 ∷ add_carry 14 14 ∷ Skip Jc (compare 13 14) ∷ Skip Jnc (all (subtract 13 14 ∷ count_up 12 ∷ [])) ∷ [])) ∷ [])) st P
by_other st x d P ex lx ed ld some more =
    then (does (then (does (then (loops (Dividing x d) 16 refl (omega arith)
    (record { bits = x; quotient = 0; rest = 0; behind = 1; held = ex ∙ omega arith; divisor = ed; remains = refl; less = some; few = lx; few_quotient = omega arith; whole = refl; is = omega arith })
    (divide_turn x d ld)
    (λ s g. nothing (
    let none : g.bits ≡ 0 = let f = g.few in omega (arith, f) in
    let i : x ≡ d * g.quotient + g.rest = let e = g.is in omega (arith, e, none) in
    let u = divided x d g.quotient g.rest g.less i in
    more s (g.held ∙ ap (λ m. m * g.behind + g.quotient) none ∙ (let z : 0 * g.behind + g.quotient ≡ g.quotient = omega arith in z) ∙ u.0) (g.remains ∙ u.1))))))))

pub divide_does : (st : Registers) (x d : ℕ) → st.regs 12 ≡ x → x < 0x10000 → st.regs 13 ≡ d → d < 0x10000 → Ends divide st (IsDivided x d)
divide_does st x d ex lx ed ld =
    then (is_below 1 d refl (omega arith) ed (tt, (tt, tt))
    (λ lt. by_other _ 0 1 (IsDivided x d) refl (omega arith) refl (omega arith) (omega arith) (λ s q r. let z : (d == 0) ≡ true = grind (arith, nat_tests) in rw z (q, r)))
    (λ le. by_other _ x d (IsDivided x d) ex lx ed ld (omega (arith, le)) (λ s q r. let z : (d == 0) ≡ false = grind (arith, nat_tests) in rw z (q, r))))
