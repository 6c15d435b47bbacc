-- Products and shifts of 32 bits.
use Rattle.std.proofs.Common.{◌≡◌, ℕ, suc, ◌+◌, ◌*◌, ◌/◌, ◌%◌, ◌^◌, ◌<◌, ◌≤◌, true, false, cond, not, nat_le, nat_lt, [], ◌∷◌, refl, sym, ap, ◌∙◌, arith}
use Rattle.std.proofs.lemmas.Bool.Decides.{nat_tests}
use Rattle.std.proofs.Math.Nat.{pow-suc}
use Rattle.msp_isa.specs.declared.instr.Cond.TheVariants.{Jnc}
use Rattle.msp_isa.specs.declared.instr.Op2.TheVariants as op2
use Rattle.msp430_cpu.specs.Operate.{operate}
use Rattle.open_law.specs.Homes.{InRegister, Made, Of}
use Rattle.open_law.proofs.Homes.{flags_carry}
use Rattle.msp_runtime.specs.Code.{Code, Registers, Skip, Times, done}
use Rattle.msp_runtime.specs.Routines.{add, add_carry, all, multiply_wide, shift_left_wide}
use Rattle.msp_runtime.proofs.Steps.{Ends, at_least, carry_out, does, keeps, loops, nothing, skips, then}

-- a number from its halves
abbrev pub wide : (low high : ℕ) → ℕ
wide low high = low + 65536 * high

-- C behind ADD
pub carry_add : (sr a b a' b' : ℕ) → a ≡ a' → b ≡ b' → a' < 0x10000 → b' < 0x10000 → (operate op2.Add false sr b a).sr % 2 ≡ (a' + b' + 0) / 0x10000
carry_add sr a b a' b' e f la lb = carry_out sr (a + b + 0) _ _ _ (omega (arith, e, f, la, lb)) ∙ ap (λ n. (n + b + 0) / 0x10000) e ∙ ap (λ n. (a' + n + 0) / 0x10000) f

-- and what ADDC makes of it
pub sum_carried : (a b c a' b' c' : ℕ) → a ≡ a' → b ≡ b' → c ≡ c' → a + b + c ≡ a' + b' + c'
sum_carried a b c a' b' c' e f g = ap (λ n. n + b + c) e ∙ ap (λ n. a' + n + c) f ∙ ap (λ n. a' + b' + n) g

-- ---- numbers

added : (sum a p x q s : ℕ) → s + q * 0x100000000 ≡ sum + sum + a → (s * p + a * x) % 0x100000000 ≡ (sum * (p * 2) + a * (p + x)) % 0x100000000
added sum a p x q s e = let f = ap (λ y. y * p) e in omega (arith, f)

kept : (sum a p x q s : ℕ) → s + q * 0x100000000 ≡ sum + sum → (s * p + a * x) % 0x100000000 ≡ (sum * (p * 2) + a * x) % 0x100000000
kept sum a p x q s e = let f = ap (λ y. y * p) e in omega (arith, f)

bit_in : (rest p r : ℕ) → r + 0x100000000 ≡ rest + rest → rest * (p * 2) / 0x100000000 ≡ p + r * p / 0x100000000
bit_in rest p r e = let f = ap (λ y. y * p) e in omega (arith, f)

bit_out : (rest p r : ℕ) → r ≡ rest + rest → rest * (p * 2) / 0x100000000 ≡ r * p / 0x100000000
bit_out rest p r e = let f = ap (λ y. y * p) e in omega (arith, f)

doubled_wide : (x y p q : ℕ) → y + q * 0x100000000 ≡ x + x → (y * p) % 0x100000000 ≡ (x * (p * 2)) % 0x100000000
doubled_wide x y p q e = let f = ap (λ n. n * p) e in omega (arith, f)

doubled_long : (w y p q : ℕ) → y + q * 0x10000000000000000 ≡ w + w → (y * p / 0x100000000) % 0x100000000 ≡ (w * (p * 2) / 0x100000000) % 0x100000000
doubled_long w y p q e = let f = ap (λ n. n * p) e in omega (arith, f)

-- ---- products

record Adding (al ah result k : ℕ) (regs : ℕ → ℕ) : Type 0 where
  sl : ℕ
  sh : ℕ
  rl : ℕ
  rh : ℕ
  s12 : regs 12 ≡ sl
  s13 : regs 13 ≡ sh
  s14 : regs 14 ≡ rl
  s15 : regs 15 ≡ rh
  s10 : regs 10 ≡ al
  s11 : regs 11 ≡ ah
  lsl : sl < 0x10000
  lsh : sh < 0x10000
  lrl : rl < 0x10000
  lrh : rh < 0x10000
  goal : (wide sl sh * 2 ^ k + wide al ah * (wide rl rh * 2 ^ k / 0x100000000)) % 0x100000000 ≡ result

abbrev body : Code
body = all (add 12 12 ∷ add_carry 13 13 ∷ add 14 14 ∷ add_carry 15 15 ∷ Skip Jnc (all (add 10 12 ∷ add_carry 11 13 ∷ [])) ∷ [])

turn : (al ah result : ℕ) → al < 0x10000 → ah < 0x10000 → (j : ℕ) (s : Registers) → Adding al ah result (suc j) s.regs → Ends body s (λ s'. Adding al ah result j (done op2.Sub (Made 1) 9 s').regs)
turn al ah result lal lah j s g =
    let sl = g.sl in let sh = g.sh in let rl = g.rl in let rh = g.rh in let p = 2 ^ j in
    let l1 = g.lsl in let l2 = g.lsh in let l3 = g.lrl in let l4 = g.lrh in
    let a = wide al ah in let sum = wide sl sh in let rest = wide rl rh in
    let cs = (sl + sl + 0) / 0x10000 in
    let tl = (sl + sl + 0) % 0x10000 in let th = (sh + sh + cs) % 0x10000 in
    let cr = (rl + rl + 0) / 0x10000 in
    let ul = (rl + rl + 0) % 0x10000 in let uh = (rh + rh + cr) % 0x10000 in
    let cv = (tl + al + 0) / 0x10000 in
    let vl = (tl + al + 0) % 0x10000 in let vh = (th + ah + cv) % 0x10000 in
    let twice = wide tl th in let rest' = wide ul uh in let sum' = wide vl vh in
    let s1 = done op2.Add (Of (InRegister 12)) 12 s in
    let s2 = done op2.Addc (Of (InRegister 13)) 13 s1 in
    let s3 = done op2.Add (Of (InRegister 14)) 14 s2 in
    let s4 = done op2.Addc (Of (InRegister 15)) 15 s3 in
    let s5 = done op2.Add (Of (InRegister 10)) 12 s4 in
    let e12 : s4.regs 12 ≡ tl = ap (λ n. (n + n + 0) % 0x10000) g.s12 in
    let c1 : s1.sr % 2 ≡ cs = carry_add s.sr (s.regs 12) (s.regs 12) sl sl g.s12 g.s12 l1 l1 in
    let e13 : s4.regs 13 ≡ th = ap (λ n. n % 0x10000) (sum_carried (s.regs 13) (s.regs 13) (s1.sr % 2) sh sh cs g.s13 g.s13 c1) in
    let e14 : s4.regs 14 ≡ ul = ap (λ n. (n + n + 0) % 0x10000) g.s14 in
    let c3 : s3.sr % 2 ≡ cr = carry_add s2.sr (s.regs 14) (s.regs 14) rl rl g.s14 g.s14 l3 l3 in
    let t15 : s.regs 15 + s.regs 15 + s3.sr % 2 ≡ rh + rh + cr = sum_carried (s.regs 15) (s.regs 15) (s3.sr % 2) rh rh cr g.s15 g.s15 c3 in
    let e15 : s4.regs 15 ≡ uh = ap (λ n. n % 0x10000) t15 in
    let c5 : s5.sr % 2 ≡ cv = carry_add s4.sr (s4.regs 12) (s.regs 10) tl al e12 g.s10 (omega arith) lal in
    let f12 : s5.regs 12 ≡ vl = ap (λ n. n % 0x10000) (sum_carried (s4.regs 12) (s.regs 10) 0 tl al 0 e12 g.s10 refl) in
    let f13 : (s4.regs 13 + s.regs 11 + s5.sr % 2) % 0x10000 ≡ vh = ap (λ n. n % 0x10000) (sum_carried (s4.regs 13) (s.regs 11) (s5.sr % 2) th ah cv e13 g.s11 c5) in
    let power : p * 2 ≡ 2 ^ suc j = sym (pow-suc 2 j) in
    let x = rest' * p / 0x100000000 in
    let back = ap (λ y. (sum * y + a * (rest * y / 0x100000000)) % 0x100000000) power ∙ g.goal in
    then (does (then (does (then (does (then (does (then (skips (tt, (tt, tt)) (not (nat_le 0x10000 (rh + rh + cr))) (ap not (flags_carry _ _ _ _ _ ∙ ap (nat_le 0x10000) t15))
    (λ t. let under : rh + rh + cr < 0x10000 = grind (arith, nat_tests) in
    nothing (record {
      sl = tl;
      sh = th;
      rl = ul;
      rh = uh;
      s12 = e12;
      s13 = e13;
      s14 = e14;
      s15 = e15;
      s10 = g.s10;
      s11 = g.s11;
      lsl = omega arith;
      lsh = omega arith;
      lrl = omega arith;
      lrh = omega arith;
      goal = kept sum a p x ((sh + sh + cs) / 0x10000) twice (omega (arith, l1, l2)) ∙ ap (λ y. (sum * (p * 2) + a * y) % 0x100000000) (sym (bit_out rest p rest' (omega (arith, under, l3, l4)))) ∙ back;
    }))
    (λ t. let over : 0x10000 ≤ rh + rh + cr = grind (arith, nat_tests) in
    nothing (record {
      sl = vl;
      sh = vh;
      rl = ul;
      rh = uh;
      s12 = f12;
      s13 = f13;
      s14 = e14;
      s15 = e15;
      s10 = g.s10;
      s11 = g.s11;
      lsl = omega arith;
      lsh = omega arith;
      lrl = omega arith;
      lrh = omega arith;
      goal = added sum a p x ((sh + sh + cs) / 0x10000 + (th + ah + cv) / 0x10000) sum' (omega (arith, l1, l2, lal, lah)) ∙ ap (λ y. (sum * (p * 2) + a * y) % 0x100000000) (sym (bit_in rest p rest' (omega (arith, over, l3, l4)))) ∙ back;
    })))))))))))

-- R12 and R13 hold the halves of a number
pub record IsWideNumber (r : ℕ) (s : Registers) : Type 0 where
  pub low : ℕ
  pub high : ℕ
  pub in_12 : s.regs 12 ≡ low
  pub in_13 : s.regs 13 ≡ high
  pub small : low < 0x10000
  pub small_high : high < 0x10000
  pub is : wide low high ≡ r

-- from the first product of its bits on
pub multiply_wide_does : (st : Registers) (x0 x1 y0 y1 : ℕ) → st.regs 12 ≡ x0 → x0 < 0x10000 → st.regs 13 ≡ x1 → x1 < 0x10000 → st.regs 14 ≡ y0 → y0 < 0x10000 → st.regs 15 ≡ y1 → y1 < 0x10000 →
    Ends multiply_wide st (IsWideNumber ((wide x0 x1 * wide y0 y1) % 0x100000000))
multiply_wide_does st x0 x1 y0 y1 e12 l12 e13 l13 e14 l14 e15 l15 =
    let x = wide x0 x1 in let y = wide y0 y1 in
    keeps (keeps (keeps (then (does (then (does (then (does (then (does (then (does (then (loops (Adding x0 x1 ((x * y) % 0x100000000)) 32 refl (omega arith)
    (record {
      sl = 0;
      sh = 0;
      rl = y0;
      rh = y1;
      s12 = refl;
      s13 = refl;
      s14 = e14;
      s15 = e15;
      s10 = e12;
      s11 = e13;
      lsl = omega arith;
      lsh = omega arith;
      lrl = l14;
      lrh = l15;
      goal = (let z : y * 0x100000000 / 0x100000000 ≡ y = omega arith in ap (λ n. (0 * 0x100000000 + x * n) % 0x100000000) z ∙ omega arith);
    })
    (turn x0 x1 ((x * y) % 0x100000000) l12 l13)
    (λ s g. nothing (record {
      low = g.sl;
      high = g.sh;
      in_12 = g.s12;
      in_13 = g.s13;
      small = g.lsl;
      small_high = g.lsh;
      is = (let a = g.lsl in let b = g.lsh in let c = g.lrl in let d = g.lrh in let z : wide g.rl g.rh * 1 / 0x100000000 ≡ 0 = omega (arith, c, d) in
          sym (ap (λ n. (wide g.sl g.sh * 1 + x * n) % 0x100000000) z ∙ omega (arith, a, b))) ∙ g.goal;
    }))))))))))))))))

-- ---- shifts to the left

record Going (result k : ℕ) (regs : ℕ → ℕ) : Type 0 where
  low : ℕ
  high : ℕ
  s12 : regs 12 ≡ low
  s13 : regs 13 ≡ high
  small : low < 0x10000
  small_high : high < 0x10000
  goal : (wide low high * 2 ^ k) % 0x100000000 ≡ result

left_turn : (result j : ℕ) (s : Registers) → Going result (suc j) s.regs → Ends (all (add 12 12 ∷ add_carry 13 13 ∷ [])) s (λ s'. Going result j (done op2.Sub (Made 1) 14 s').regs)
left_turn result j s g =
    let low = g.low in let high = g.high in let l1 = g.small in let l2 = g.small_high in
    let c = (low + low + 0) / 0x10000 in
    let c1 : (done op2.Add (Of (InRegister 12)) 12 s).sr % 2 ≡ c = carry_add s.sr (s.regs 12) (s.regs 12) low low g.s12 g.s12 l1 l1 in
    then (does (then (does (nothing (record {
      low = (low + low + 0) % 0x10000;
      high = (high + high + c) % 0x10000;
      s12 = ap (λ n. (n + n + 0) % 0x10000) g.s12;
      s13 = ap (λ n. n % 0x10000) (sum_carried (s.regs 13) (s.regs 13) ((done op2.Add (Of (InRegister 12)) 12 s).sr % 2) high high c g.s13 g.s13 c1);
      small = omega arith;
      small_high = omega arith;
      goal = doubled_wide (wide low high) (wide ((low + low + 0) % 0x10000) ((high + high + c) % 0x10000)) (2 ^ j) ((high + high + c) / 0x10000) (omega (arith, l1, l2)) ∙ ap (λ n. (wide low high * n) % 0x100000000) (sym (pow-suc 2 j)) ∙ g.goal;
    })))))

left_rest : (st : Registers) (low high n result : ℕ) → st.regs 12 ≡ low → low < 0x10000 → st.regs 13 ≡ high → high < 0x10000 → st.regs 14 ≡ n → n ≤ 31 → (wide low high * 2 ^ n) % 0x100000000 ≡ result →
    Ends (all (Times 31 14 (all (add 12 12 ∷ add_carry 13 13 ∷ [])) ∷ [])) st (IsWideNumber result)
left_rest st low high n result e12 l12 e13 l13 en le goal =
    then (loops (Going result) n en le (record { low = low; high = high; s12 = e12; s13 = e13; small = l12; small_high = l13; goal = goal }) (left_turn result)
    (λ s g. nothing (record { low = g.low; high = g.high; in_12 = g.s12; in_13 = g.s13; small = g.small; small_high = g.small_high; is = (let a = g.small in let b = g.small_high in let z : (wide g.low g.high * 1) % 0x100000000 ≡ wide g.low g.high = omega (arith, a, b) in sym z) ∙ g.goal })))

abbrev pub shifted_left_wide : ℕ → ℕ → ℕ
shifted_left_wide x n = cond (nat_lt n 32) ((x * 2 ^ n) % 0x100000000) 0

pub shift_left_wide_does : (st : Registers) (x0 x1 n : ℕ) → st.regs 12 ≡ x0 → x0 < 0x10000 → st.regs 13 ≡ x1 → x1 < 0x10000 → st.regs 14 ≡ n → n < 0x10000 → Ends shift_left_wide st (IsWideNumber (shifted_left_wide (wide x0 x1) n))
shift_left_wide_does st x0 x1 n e12 l12 e13 l13 en ln =
    then (at_least 32 n refl (omega arith) en (tt, (tt, (tt, tt)))
    (λ le. left_rest _ 0 0 0 (shifted_left_wide (wide x0 x1) n) refl (omega arith) refl (omega arith) refl (omega arith) (let l : nat_lt n 32 ≡ false = grind (arith, nat_tests) in rw l refl))
    (λ lt. left_rest _ x0 x1 n (shifted_left_wide (wide x0 x1) n) e12 l12 e13 l13 en (omega (arith, lt)) (let l : nat_lt n 32 ≡ true = grind (arith, nat_tests) in rw l refl)))

-- ---- shifts to the right: 64 bits go left

pub record Rising (result k : ℕ) (regs : ℕ → ℕ) : Type 0 where
  pub a : ℕ
  pub b : ℕ
  pub c : ℕ
  pub d : ℕ
  pub s12 : regs 12 ≡ a
  pub s13 : regs 13 ≡ b
  pub s10 : regs 10 ≡ c
  pub s11 : regs 11 ≡ d
  pub la : a < 0x10000
  pub lb : b < 0x10000
  pub lc : c < 0x10000
  pub ld : d < 0x10000
  pub goal : ((wide a b + 0x100000000 * wide c d) * 2 ^ k / 0x100000000) % 0x100000000 ≡ result

-- C behind ADDC
pub carry_addc : (sr a c a' c' : ℕ) → a ≡ a' → sr % 2 ≡ c' → a' < 0x10000 → c' ≤ 1 → (operate op2.Addc false sr a a).sr % 2 ≡ (a' + a' + c') / 0x10000
carry_addc sr a c a' c' e f la lc = carry_out sr (a + a + sr % 2) _ _ _ (omega (arith, e, f, la, lc)) ∙ ap (λ n. n / 0x10000) (sum_carried a a (sr % 2) a' a' c' e e f)

pub right_turn : (result j : ℕ) (s : Registers) → Rising result (suc j) s.regs → Ends (all (add 12 12 ∷ add_carry 13 13 ∷ add_carry 10 10 ∷ add_carry 11 11 ∷ [])) s (λ s'. Rising result j (done op2.Sub (Made 1) 15 s').regs)
right_turn result j s g =
    let a = g.a in let b = g.b in let c = g.c in let d = g.d in let la = g.la in let lb = g.lb in let lc = g.lc in let ld = g.ld in
    let k1 = (a + a + 0) / 0x10000 in let k2 = (b + b + k1) / 0x10000 in let k3 = (c + c + k2) / 0x10000 in let k4 = (d + d + k3) / 0x10000 in
    let a' = (a + a + 0) % 0x10000 in let b' = (b + b + k1) % 0x10000 in let c' = (c + c + k2) % 0x10000 in let d' = (d + d + k3) % 0x10000 in
    let s1 = done op2.Add (Of (InRegister 12)) 12 s in
    let s2 = done op2.Addc (Of (InRegister 13)) 13 s1 in
    let s3 = done op2.Addc (Of (InRegister 10)) 10 s2 in
    let e1 : s1.sr % 2 ≡ k1 = carry_add s.sr (s.regs 12) (s.regs 12) a a g.s12 g.s12 la la in
    let e2 : s2.sr % 2 ≡ k2 = carry_addc s1.sr (s.regs 13) 0 b k1 g.s13 e1 lb (omega (arith, la)) in
    let e3 : s3.sr % 2 ≡ k3 = carry_addc s2.sr (s.regs 10) 0 c k2 g.s10 e2 lc (omega (arith, la, lb)) in
    let whole : wide a' b' + 0x100000000 * wide c' d' + k4 * 0x10000000000000000 ≡ (wide a b + 0x100000000 * wide c d) + (wide a b + 0x100000000 * wide c d) = omega (arith, la, lb, lc, ld) in
    then (does (then (does (then (does (then (does (nothing (record {
      a = a';
      b = b';
      c = c';
      d = d';
      s12 = ap (λ n. (n + n + 0) % 0x10000) g.s12;
      s13 = ap (λ n. n % 0x10000) (sum_carried (s.regs 13) (s.regs 13) (s1.sr % 2) b b k1 g.s13 g.s13 e1);
      s10 = ap (λ n. n % 0x10000) (sum_carried (s.regs 10) (s.regs 10) (s2.sr % 2) c c k2 g.s10 g.s10 e2);
      s11 = ap (λ n. n % 0x10000) (sum_carried (s.regs 11) (s.regs 11) (s3.sr % 2) d d k3 g.s11 g.s11 e3);
      la = omega arith;
      lb = omega arith;
      lc = omega arith;
      ld = omega arith;
      goal = doubled_long (wide a b + 0x100000000 * wide c d) (wide a' b' + 0x100000000 * wide c' d') (2 ^ j) k4 whole ∙ ap (λ n. ((wide a b + 0x100000000 * wide c d) * n / 0x100000000) % 0x100000000) (sym (pow-suc 2 j)) ∙ g.goal;
    })))))))))
