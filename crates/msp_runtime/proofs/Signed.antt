-- Quotients and remainders of signed words of 16 bits.
use Rattle.std.proofs.Common.{◌≡◌, ℕ, ◌+◌, ◌-◌, ◌%◌, ◌/◌, ◌==◌, ◌<◌, ◌≤◌, Bool, true, false, cond, not, nat_le, [], ◌∷◌, refl, ap, ◌∙◌, arith}
use Rattle.std.proofs.lemmas.Bool.Decides.{nat_tests}
use Rattle.std.proofs.Math.Nat.{div-le_self, mod-le}
use Rattle.msp_isa.specs.declared.instr.Cond.TheVariants.{Jne}
use Rattle.msp_isa.specs.declared.instr.Op2.TheVariants.{Add, Cmp}
use Rattle.open_law.specs.Homes.{literal}
use Rattle.open_law.proofs.Homes.{flags_zero}
use Rattle.msp_runtime.specs.Code.{Code, Do, Registers, Skip, leaves, meaning}
use Rattle.msp_runtime.specs.Routines.{all, copy, divide, magnitude, negate, quotient, remainder}
use Rattle.msp_runtime.proofs.Running.{code_leaves}
use Rattle.msp_runtime.proofs.Steps.{Ends, at_least, does, keeps, nothing, skips, then}
use Rattle.msp_runtime.proofs.Divide.{divide_does, quotient_of, remainder_of}
use Rattle.msp_runtime.proofs.GivenWords.{differs, magnitude_of, signed_by}

-- what code leaves, with what it does not touch
onward : {c : Code} {st : Registers} {P Q : Registers → Type 0} → Ends c st P → leaves 11 c ≡ true → ((s : Registers) → P s → s.regs 11 ≡ st.regs 11 → Q s) → Ends c st Q
onward {c} {st} e l more = record { bounded = e.bounded; after = more (meaning c st) e.after (code_leaves c 11 l st) }

-- the sign is put back where R11 holds 1
turned_back : (st : Registers) (m c : ℕ) (result : ℕ) (differ : Bool) → st.regs 12 ≡ m → m < 0x10000 → st.regs 11 ≡ c → ((c + (0x10000 - 1 - 1) + 1) % 0x10000 == 0) ≡ differ → signed_by differ m ≡ result →
    Ends (all (Do Cmp (literal 1) 11 ∷ Skip Jne (negate 12) ∷ [])) st (λ s. s.regs 12 ≡ result)
turned_back st m c result differ em lm ec e goal = then (does (then (skips (tt, (tt, (tt, tt))) (not differ)
    (ap not (flags_zero _ _ _ _ _ ∙ ap (λ n. (n + (0x10000 - 1 - 1) + 1) % 0x10000 == 0) ec ∙ e))
    (λ t. nothing (em ∙ same differ t ∙ goal))
    (λ t. nothing (ap (λ n. (0 + (0x10000 - 1 - n) + 1) % 0x10000) em ∙ other differ t ∙ goal)))))
  where
    same : (b : Bool) → not b ≡ true → m ≡ signed_by b m
    same false t = refl
    same true t = absurd (let z : ⊥ = cc in z)

    other : (b : Bool) → not b ≡ false → (0 + (0x10000 - 1 - m) + 1) % 0x10000 ≡ signed_by b m
    other true t = omega (arith, lm)
    other false t = absurd (let z : ⊥ = cc in z)

-- the word without its sign
without : (n x : ℕ) → n ≡ x → 0x8000 ≤ x → x < 0x10000 → (0 + (0x10000 - 1 - n) + 1) % 0x10000 ≡ 65536 - x
without n x e le lt = omega (arith, e, le, lt)

small_quotient : (a b : ℕ) → a < 0x10000 → quotient_of a b < 0x10000
small_quotient a b lt = by (b == 0)
  where
    by : (t : Bool) → cond t 0 (a / b) < 0x10000
    by true = omega arith
    by false = let d = div-le_self a b in omega (arith, d, lt)

small_remainder : (a b : ℕ) → a < 0x10000 → remainder_of a b < 0x10000
small_remainder a b lt = by (b == 0)
  where
    by : (t : Bool) → cond t 0 (a % b) < 0x10000
    by true = omega arith
    by false = let d = mod-le a b in omega (arith, d, lt)

-- ---- quotients

abbrev quotient_end : Code
quotient_end = all (divide ∷ Do Cmp (literal 1) 11 ∷ Skip Jne (negate 12) ∷ [])

quotient_last : (st : Registers) (a b c result : ℕ) (differ : Bool) → st.regs 12 ≡ a → a < 0x10000 → st.regs 13 ≡ b → b < 0x10000 → st.regs 11 ≡ c → ((c + (0x10000 - 1 - 1) + 1) % 0x10000 == 0) ≡ differ → signed_by differ (quotient_of a b) ≡ result →
    Ends quotient_end st (λ s. s.regs 12 ≡ result)
quotient_last st a b c result differ ea la eb lb ec e goal =
    then (onward (divide_does st a b ea la eb lb) refl (λ s d k. turned_back s (quotient_of a b) c result differ d.0 (small_quotient a b la) (k ∙ ec) e goal))

-- from the sign of the divisor on
quotient_rest : (st : Registers) (a y : ℕ) (one : Bool) → st.regs 12 ≡ a → a < 0x10000 → st.regs 13 ≡ y → y < 0x10000 → st.regs 11 ≡ cond one 1 0 →
    Ends (all (magnitude true 13 ∷ divide ∷ Do Cmp (literal 1) 11 ∷ Skip Jne (negate 12) ∷ [])) st (λ s. s.regs 12 ≡ signed_by (differs one (nat_le 0x8000 y)) (quotient_of a (magnitude_of y)))
quotient_rest st a y one ea la ey ly ec =
    then (at_least 0x8000 y refl (omega arith) ey ((tt, (tt, (tt, tt))), ((tt, tt), tt))
    (λ le. let t : nat_le 0x8000 y ≡ true = grind (arith, nat_tests) in
    rw t (by_more one ec (without (st.regs 13) y ey le ly) (omega (arith, le))))
    (λ lt. let t : nat_le 0x8000 y ≡ false = grind (arith, nat_tests) in rw t (by_less one ec)))
  where
    st' : Registers
    st' = meaning (Do Cmp (literal 0x8000) 13) st

    st1 : Registers
    st1 = meaning (all (negate 13 ∷ all (Do Add (literal 1) 11 ∷ []) ∷ [])) st'

    by_more : (one : Bool) → st.regs 11 ≡ cond one 1 0 → st1.regs 13 ≡ 65536 - y → 65536 - y < 0x10000 → Ends quotient_end st1 (λ s. s.regs 12 ≡ signed_by (differs one true) (quotient_of a (65536 - y)))
    by_more true ec e l = quotient_last st1 a (65536 - y) 2 _ false ea la e l (ap (λ n. (n + 1 + 0) % 0x10000) ec) refl refl
    by_more false ec e l = quotient_last st1 a (65536 - y) 1 _ true ea la e l (ap (λ n. (n + 1 + 0) % 0x10000) ec) refl refl

    by_less : (one : Bool) → st.regs 11 ≡ cond one 1 0 → Ends quotient_end st' (λ s. s.regs 12 ≡ signed_by (differs one false) (quotient_of a y))
    by_less true ec = quotient_last st' a y 1 _ true ea la ey ly ec refl refl
    by_less false ec = quotient_last st' a y 0 _ false ea la ey ly ec refl refl

pub quotient_does : (st : Registers) (x y : ℕ) → st.regs 12 ≡ x → x < 0x10000 → st.regs 13 ≡ y → y < 0x10000 →
    Ends (quotient true) st (λ s. s.regs 12 ≡ signed_by (differs (nat_le 0x8000 x) (nat_le 0x8000 y)) (quotient_of (magnitude_of x) (magnitude_of y)))
quotient_does st x y ex lx ey ly =
    keeps (then (does (then (at_least 0x8000 x refl (omega arith) ex ((tt, (tt, (tt, tt))), ((tt, tt), tt))
    (λ le. let t : nat_le 0x8000 x ≡ true = grind (arith, nat_tests) in rw t (quotient_rest _ (65536 - x) y true (without (st.regs 12) x ex le lx) (omega (arith, le)) ey ly refl))
    (λ lt. let t : nat_le 0x8000 x ≡ false = grind (arith, nat_tests) in rw t (quotient_rest _ x y false ex lx ey ly refl))))))

-- ---- remainders

abbrev remainder_end : Code
remainder_end = all (divide ∷ copy 14 12 ∷ Do Cmp (literal 1) 11 ∷ Skip Jne (negate 12) ∷ [])

remainder_last : (st : Registers) (a b c result : ℕ) (differ : Bool) → st.regs 12 ≡ a → a < 0x10000 → st.regs 13 ≡ b → b < 0x10000 → st.regs 11 ≡ c → ((c + (0x10000 - 1 - 1) + 1) % 0x10000 == 0) ≡ differ → signed_by differ (remainder_of a b) ≡ result →
    Ends remainder_end st (λ s. s.regs 12 ≡ result)
remainder_last st a b c result differ ea la eb lb ec e goal =
    then (onward (divide_does st a b ea la eb lb) refl (λ s d k. then (does (turned_back _ (remainder_of a b) c result differ d.1 (small_remainder a b la) (k ∙ ec) e goal))))

remainder_rest : (st : Registers) (a y : ℕ) (one : Bool) → st.regs 12 ≡ a → a < 0x10000 → st.regs 13 ≡ y → y < 0x10000 → st.regs 11 ≡ cond one 1 0 →
    Ends (all (magnitude false 13 ∷ divide ∷ copy 14 12 ∷ Do Cmp (literal 1) 11 ∷ Skip Jne (negate 12) ∷ [])) st (λ s. s.regs 12 ≡ signed_by one (remainder_of a (magnitude_of y)))
remainder_rest st a y one ea la ey ly ec =
    then (at_least 0x8000 y refl (omega arith) ey ((tt, (tt, (tt, tt))), (tt, tt))
    (λ le. let t : nat_le 0x8000 y ≡ true = grind (arith, nat_tests) in rw t (by_sign _ (65536 - y) one ea ec (without (st.regs 13) y ey le ly) (omega (arith, le))))
    (λ lt. let t : nat_le 0x8000 y ≡ false = grind (arith, nat_tests) in rw t (by_sign _ y one ea ec ey ly)))
  where
    by_sign : (s : Registers) (b : ℕ) (one : Bool) → s.regs 12 ≡ a → s.regs 11 ≡ cond one 1 0 → s.regs 13 ≡ b → b < 0x10000 → Ends remainder_end s (λ s. s.regs 12 ≡ signed_by one (remainder_of a b))
    by_sign s b true ea' ec' e l = remainder_last s a b 1 _ true ea' la e l ec' refl refl
    by_sign s b false ea' ec' e l = remainder_last s a b 0 _ false ea' la e l ec' refl refl

pub remainder_does : (st : Registers) (x y : ℕ) → st.regs 12 ≡ x → x < 0x10000 → st.regs 13 ≡ y → y < 0x10000 →
    Ends (remainder true) st (λ s. s.regs 12 ≡ signed_by (nat_le 0x8000 x) (remainder_of (magnitude_of x) (magnitude_of y)))
remainder_does st x y ex lx ey ly =
    keeps (then (does (then (at_least 0x8000 x refl (omega arith) ex ((tt, (tt, (tt, tt))), ((tt, tt), tt))
    (λ le. let t : nat_le 0x8000 x ≡ true = grind (arith, nat_tests) in rw t (remainder_rest _ (65536 - x) y true (without (st.regs 12) x ex le lx) (omega (arith, le)) ey ly refl))
    (λ lt. let t : nat_le 0x8000 x ≡ false = grind (arith, nat_tests) in rw t (remainder_rest _ x y false ex lx ey ly refl))))))
