-- Products of 16 bits: sixteen turns of shift and add.
use Rattle.std.proofs.Common.{◌≡◌, ℕ, suc, ◌+◌, ◌*◌, ◌/◌, ◌%◌, ◌^◌, ◌<◌, ◌≤◌, not, nat_le, [], ◌∷◌, refl, sym, ap, ◌∙◌, arith}
use Rattle.std.proofs.lemmas.Bool.Decides.{nat_tests}
use Rattle.std.proofs.Math.Nat.{pow-suc}
use Rattle.msp_isa.specs.declared.instr.Cond.TheVariants.{Jnc}
use Rattle.msp_isa.specs.declared.instr.Op2.TheVariants as op2
use Rattle.open_law.specs.Homes.{Made}
use Rattle.open_law.proofs.Homes.{flags_carry}
use Rattle.msp_runtime.specs.Code.{Registers, done}
use Rattle.msp_runtime.specs.Routines.{add, all, multiply}
use Rattle.msp_runtime.specs.Code.{Skip}
use Rattle.msp_runtime.proofs.Steps.{Ends, does, loops, nothing, skips, then}

-- the sum, once doubled, and the factor added: the rest is a multiple of 2 ^ 16
added : (sum a p x q s : ℕ) → s + q * 0x10000 ≡ sum + sum + a → (s * p + a * x) % 0x10000 ≡ (sum * (p * 2) + a * (p + x)) % 0x10000
added sum a p x q s e = let f = ap (λ y. y * p) e in omega (arith, f)

kept : (sum a p x q s : ℕ) → s + q * 0x10000 ≡ sum + sum → (s * p + a * x) % 0x10000 ≡ (sum * (p * 2) + a * x) % 0x10000
kept sum a p x q s e = let f = ap (λ y. y * p) e in omega (arith, f)

-- the bits that are left
bit_in : (rest p r : ℕ) → r + 0x10000 ≡ rest + rest → rest * (p * 2) / 0x10000 ≡ p + r * p / 0x10000
bit_in rest p r e = let f = ap (λ y. y * p) e in omega (arith, f)

bit_out : (rest p r : ℕ) → r ≡ rest + rest → rest * (p * 2) / 0x10000 ≡ r * p / 0x10000
bit_out rest p r e = let f = ap (λ y. y * p) e in omega (arith, f)

-- k turns are left: the sum, and as many bits of y, from bit 15 down
abbrev product_left : (a k sum rest : ℕ) → ℕ
product_left a k sum rest = (sum * 2 ^ k + a * (rest * 2 ^ k / 0x10000)) % 0x10000

record Adding (a result k : ℕ) (regs : ℕ → ℕ) : Type 0 where
  sum : ℕ
  rest : ℕ
  summed : regs 12 ≡ sum
  resting : regs 13 ≡ rest
  factor : regs 14 ≡ a
  small : sum < 0x10000
  few : rest < 0x10000
  goal : product_left a k sum rest ≡ result

turn : (a result : ℕ) → a < 0x10000 → (j : ℕ) (s : Registers) → Adding a result (suc j) s.regs → Ends (all (add 12 12 ∷ add 13 13 ∷ Skip Jnc (add 14 12) ∷ [])) s (λ s'. Adding a result j (done op2.Sub (Made 1) 15 s').regs)
turn a result small_a j s g =
    let sum = g.sum in let rest = g.rest in let p = 2 ^ j in
    let ls = g.small in let lr = g.few in
    let twice = (sum + sum + 0) % 0x10000 in
    let rest' = (rest + rest + 0) % 0x10000 in
    let sum' = (twice + a + 0) % 0x10000 in
    let e12 : (s.regs 12 + s.regs 12 + 0) % 0x10000 ≡ twice = ap (λ n. (n + n + 0) % 0x10000) g.summed in
    let e13 : (s.regs 13 + s.regs 13 + 0) % 0x10000 ≡ rest' = ap (λ n. (n + n + 0) % 0x10000) g.resting in
    let power : p * 2 ≡ 2 ^ suc j = sym (pow-suc 2 j) in
    let x = rest' * p / 0x10000 in
    let back = ap (λ y. (sum * y + a * (rest * y / 0x10000)) % 0x10000) power ∙ g.goal in
    then (does (then (does (then (skips tt (not (nat_le 0x10000 (rest + rest + 0))) (ap not (flags_carry _ _ _ _ _ ∙ ap (λ n. nat_le 0x10000 (n + n + 0)) g.resting))
    (λ t. let under : rest + rest < 0x10000 = grind (arith, nat_tests) in
    nothing (record {
      sum = twice;
      rest = rest';
      summed = e12;
      resting = e13;
      factor = g.factor;
      small = omega arith;
      few = omega arith;
      goal = kept sum a p x ((sum + sum) / 0x10000) twice (omega arith) ∙ ap (λ y. (sum * (p * 2) + a * y) % 0x10000) (sym (bit_out rest p rest' (omega (arith, under)))) ∙ back;
    }))
    (λ t. let over : 0x10000 ≤ rest + rest = grind (arith, nat_tests) in
    nothing (record {
      sum = sum';
      rest = rest';
      summed = ap (λ n. (n + s.regs 14 + 0) % 0x10000) e12 ∙ ap (λ n. (twice + n + 0) % 0x10000) g.factor;
      resting = e13;
      factor = g.factor;
      small = omega arith;
      few = omega arith;
      goal = added sum a p x ((sum + sum) / 0x10000 + ((sum + sum) % 0x10000 + a) / 0x10000) sum' (omega arith) ∙ ap (λ y. (sum * (p * 2) + a * y) % 0x10000) (sym (bit_in rest p rest' (omega (arith, over, lr)))) ∙ back;
    })))))))

pub multiply_does : (st : Registers) (x y : ℕ) → st.regs 12 ≡ x → x < 0x10000 → st.regs 13 ≡ y → y < 0x10000 → Ends multiply st (λ s. s.regs 12 ≡ (x * y) % 0x10000)
multiply_does st x y ex lx ey ly =
    then (does (then (does (then (does (then (loops (Adding x ((x * y) % 0x10000)) 16 refl (omega arith)
    (record { sum = 0; rest = y; summed = refl; resting = ey; factor = ex; small = omega arith; few = ly; goal = (let z : y * 0x10000 / 0x10000 ≡ y = omega arith in ap (λ n. (0 * 0x10000 + x * n) % 0x10000) z ∙ omega arith) })
    (turn x ((x * y) % 0x10000) lx)
    (λ s g. nothing (g.summed ∙ (let l = g.small in let f = g.few in let z : g.rest * 1 / 0x10000 ≡ 0 = omega (arith, f) in
    sym (ap (λ n. (g.sum * 1 + x * n) % 0x10000) z ∙ omega (arith, l))) ∙ g.goal)))))))))
