-- Shifts of 16 bits.
use Rattle.std.proofs.Common.{◌≡◌, ℕ, suc, ◌+◌, ◌-◌, ◌*◌, ◌/◌, ◌%◌, ◌^◌, ◌<◌, ◌≤◌, Bool, true, false, cond, nat_le, nat_lt, [], ◌∷◌, refl, sym, ap, ◌∙◌, arith}
use Rattle.std.proofs.lemmas.Bool.Decides.{nat_tests}
use Rattle.std.proofs.Math.Nat.{pow-suc}
use Rattle.msp_isa.specs.declared.instr.Op2.TheVariants as op2
use Rattle.msp430_cpu.specs.Operate.{operate}
use Rattle.open_law.specs.Homes.{Made}
use Rattle.msp_runtime.specs.Code.{Registers, Times, done}
use Rattle.msp_runtime.specs.Routines.{add, add_carry, all, copy, set, shift_left, shift_right, subtract, where_least}
use Rattle.msp_runtime.proofs.Steps.{Ends, at_least, carry_out, does, doubled, doubled_high, loops, nothing, then}

-- ---- to the left

abbrev pub shifted_left : ℕ → ℕ → ℕ
shifted_left x n = cond (nat_lt n 16) ((x * 2 ^ n) % 0x10000) 0

record Going (result k : ℕ) (regs : ℕ → ℕ) : Type 0 where
  x : ℕ
  held : regs 12 ≡ x
  small : x < 0x10000
  goal : (x * 2 ^ k) % 0x10000 ≡ result

left_turn : (result j : ℕ) (s : Registers) → Going result (suc j) s.regs → Ends (add 12 12) s (λ s'. Going result j (done op2.Sub (Made 1) 13 s').regs)
left_turn result j s g =
    let x = g.x in let y = (x + x + 0) % 0x10000 in
    does (record { x = y; held = ap (λ n. (n + n + 0) % 0x10000) g.held; small = omega arith; goal = doubled x y (2 ^ j) ((x + x) / 0x10000) (omega arith) ∙ ap (λ n. (x * n) % 0x10000) (sym (pow-suc 2 j)) ∙ g.goal })

left_rest : (st : Registers) (x n result : ℕ) → st.regs 12 ≡ x → x < 0x10000 → st.regs 13 ≡ n → n ≤ 15 → (x * 2 ^ n) % 0x10000 ≡ result → Ends (all (Times 15 13 (add 12 12) ∷ [])) st (λ s. s.regs 12 ≡ result)
left_rest st x n result ex lx en le goal =
    then (loops (Going result) n en le (record { x = x; held = ex; small = lx; goal = goal }) (left_turn result)
    (λ s g. nothing (g.held ∙ (let z : g.x * 1 % 0x10000 ≡ g.x = let l = g.small in omega (arith, l) in sym z) ∙ g.goal)))

pub shift_left_does : (st : Registers) (x n : ℕ) → st.regs 12 ≡ x → x < 0x10000 → st.regs 13 ≡ n → n < 0x10000 → Ends shift_left st (λ s. s.regs 12 ≡ shifted_left x n)
shift_left_does st x n ex lx en ln =
    then (at_least 16 n refl (omega arith) en (tt, (tt, tt))
    (λ le. left_rest _ 0 0 (shifted_left x n) refl (omega arith) refl (omega arith) (let l : nat_lt n 16 ≡ false = grind (arith, nat_tests) in rw l refl))
    (λ lt. left_rest _ x n (shifted_left x n) ex lx en (omega (arith, lt)) (let l : nat_lt n 16 ≡ true = grind (arith, nat_tests) in rw l refl)))

-- ---- to the right

-- the high half of 32 bits that go left
record Rising (result k : ℕ) (regs : ℕ → ℕ) : Type 0 where
  low : ℕ
  high : ℕ
  held : regs 12 ≡ low
  held_high : regs 14 ≡ high
  small : low < 0x10000
  small_high : high < 0x10000
  goal : ((low + 65536 * high) * 2 ^ k / 0x10000) % 0x10000 ≡ result

right_turn : (result j : ℕ) (s : Registers) → Rising result (suc j) s.regs → Ends (all (add 12 12 ∷ add_carry 14 14 ∷ [])) s (λ s'. Rising result j (done op2.Sub (Made 1) 15 s').regs)
right_turn result j s g =
    let low = g.low in let high = g.high in let a = g.small in let b = g.small_high in
    let low' = (low + low + 0) % 0x10000 in
    let c = (low + low + 0) / 0x10000 in
    let high' = (high + high + c) % 0x10000 in
    let el = g.held in
    let eh = g.held_high in
    let carry : (operate op2.Add false s.sr (s.regs 12) (s.regs 12)).sr % 2 ≡ c = carry_out s.sr (s.regs 12 + s.regs 12 + 0) _ _ _ (omega (arith, el, a)) ∙ ap (λ n. (n + n + 0) / 0x10000) el in
    then (does (then (does (nothing (record {
      low = low';
      high = high';
      held = ap (λ n. (n + n + 0) % 0x10000) el;
      held_high = ap (λ n. (s.regs 14 + s.regs 14 + n) % 0x10000) carry ∙ ap (λ n. (n + n + c) % 0x10000) eh;
      small = omega arith;
      small_high = omega arith;
      goal = doubled_high (low + 65536 * high) (low' + 65536 * high') (2 ^ j) ((high + high + c) / 0x10000) (omega (arith, a, b)) ∙ ap (λ n. ((low + 65536 * high) * n / 0x10000) % 0x10000) (sym (pow-suc 2 j)) ∙ g.goal;
    })))))

-- from where the count is at most 16
right_rest : (st : Registers) (x high n result : ℕ) → st.regs 12 ≡ x → x < 0x10000 → st.regs 14 ≡ high → high < 0x10000 → st.regs 13 ≡ n → n ≤ 16 → ((x + 65536 * high) * 2 ^ (16 - n) / 0x10000) % 0x10000 ≡ result →
    Ends (all (set 16 15 ∷ subtract 13 15 ∷ Times 16 15 (all (add 12 12 ∷ add_carry 14 14 ∷ [])) ∷ copy 14 12 ∷ [])) st (λ s. s.regs 12 ≡ result)
right_rest st x high n result ex lx eh lh en le goal =
    then (does (then (does (then (loops (Rising result) (16 - n) (omega (arith, en, le)) (omega arith) (record { low = x; high = high; held = ex; held_high = eh; small = lx; small_high = lh; goal = goal }) (right_turn result)
    (λ s g. then (does (nothing (g.held_high ∙ (let z : (g.low + 65536 * g.high) * 1 / 0x10000 % 0x10000 ≡ g.high = let a = g.small in let b = g.small_high in omega (arith, a, b) in sym z) ∙ g.goal)))))))))

-- of 32 bits with the sign above, what lies so far to the left
abbrev pub risen : (x high n : ℕ) → ℕ
risen x high n = ((x + 65536 * high) * 2 ^ (16 - cond (nat_le 16 n) 16 n) / 0x10000) % 0x10000

right_count : (st : Registers) (x high n : ℕ) → st.regs 12 ≡ x → x < 0x10000 → st.regs 14 ≡ high → high < 0x10000 → st.regs 13 ≡ n → n < 0x10000 →
    Ends (all (where_least 16 13 (set 16 13) ∷ set 16 15 ∷ subtract 13 15 ∷ Times 16 15 (all (add 12 12 ∷ add_carry 14 14 ∷ [])) ∷ copy 14 12 ∷ [])) st (λ s. s.regs 12 ≡ risen x high n)
right_count st x high n ex lx eh lh en ln =
    then (at_least 16 n refl (omega arith) en tt
    (λ le. right_rest _ x high 16 (risen x high n) ex lx eh lh refl (omega arith) (let t : nat_le 16 n ≡ true = grind (arith, nat_tests) in rw t refl))
    (λ lt. right_rest _ x high n (risen x high n) ex lx eh lh en (omega (arith, lt)) (let t : nat_le 16 n ≡ false = grind (arith, nat_tests) in rw t refl)))

-- the word above a number of 16 bits
abbrev pub above : (is_signed : Bool) → ℕ → ℕ
above is_signed x = cond is_signed (cond (nat_le 0x8000 x) 0xFFFF 0) 0

pub shift_right_does : (is_signed : Bool) (st : Registers) (x n : ℕ) → st.regs 12 ≡ x → x < 0x10000 → st.regs 13 ≡ n → n < 0x10000 → Ends (shift_right is_signed) st (λ s. s.regs 12 ≡ risen x (above is_signed x) n)
shift_right_does false st x n ex lx en ln = then (does (right_count _ x 0 n ex lx refl (omega arith) en ln))
shift_right_does true st x n ex lx en ln =
    then (then (does (then (at_least 0x8000 x refl (omega arith) ex tt
    (λ le. nothing (let t : nat_le 0x8000 x ≡ true = grind (arith, nat_tests) in rw t (right_count _ x 0xFFFF n ex lx refl (omega arith) en ln)))
    (λ lt. nothing (let t : nat_le 0x8000 x ≡ false = grind (arith, nat_tests) in rw t (right_count _ x 0 n ex lx refl (omega arith) en ln)))))))
