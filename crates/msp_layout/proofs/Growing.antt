-- A round makes some sizes greater and none smaller.
use Rattle.std.proofs.Common.{◌≡◌, ◌≢◌, ℕ, zero, suc, ◌+◌, ◌<◌, ◌≤◌, ◌==◌, ◌&&◌, not, cond, Bool, true, false, List, [], ◌∷◌, length, sum, set, get_or, arith, refl}
use Rattle.std.proofs.lemmas.Bool.{eqb-true}
use Rattle.std.proofs.lemmas.List.Sums.{sum_by-cons}
use Rattle.msp_isa.specs.declared.code.Item.{Item}
use Rattle.msp_isa.specs.declared.code.Item.TheVariants as item
use Rattle.msp_isa.specs.declared.instr.Cond.{Cond}
use Rattle.msp_isa.specs.declared.instr.Cond.TheVariants.{Jn, Jmp}
use Rattle.msp_layout.specs.Sizes.{long_bytes}
use Rattle.msp_layout.specs.Rounds.{reaches, widened}

pub sum-cons : (x : ℕ) (xs : List ℕ) → sum (x ∷ xs) ≡ x + sum xs
sum-cons x xs = sum_by-cons (λ (n : ℕ). n) x xs

swapped : (x y n : ℕ) → (y + n) + x ≡ (x + n) + y
swapped x y n = omega arith

behind : (x y a b n : ℕ) → a + b ≡ n + y → (x + a) + b ≡ (x + n) + y
behind x y a b n h = omega arith

pub sum_set : (xs : List ℕ) (i y : ℕ) → i < length xs → sum (set xs i y) + get_or xs i 0 ≡ sum xs + y
sum_set [] i y h = absurd (omega arith)
sum_set (x ∷ xs) zero y h = rw (sum-cons y xs, sum-cons x xs) (swapped x y (sum xs))
sum_set (x ∷ xs) (suc i) y h = rw (sum-cons x (set xs i y), sum-cons x xs) (behind x y (sum (set xs i y)) (get_or xs i 0) (sum xs) (sum_set xs i y (omega arith)))

pub long_is_longer : (c : Cond) → 4 ≤ long_bytes c
long_is_longer Jmp = omega arith
long_is_longer Jn = omega arith
long_is_longer _ = omega arith

-- a jump that changes had two bytes
jump_grows : (c : Cond) (s : ℕ) (two misses : Bool) → (s == 2) ≡ two → cond (two && misses) (long_bytes c) s ≢ s → s < cond (two && misses) (long_bytes c) s
jump_grows c s true true e ne = let two : s ≡ 2 = eqb-true s 2 e in let h : 4 ≤ long_bytes c = long_is_longer c in omega arith
jump_grows c s true false e ne = absurd (ne refl)
jump_grows c s false misses e ne = absurd (ne refl)

pub widened_grows : (it : Item) (s from to : ℕ) → widened it s from to ≢ s → s < widened it s from to
widened_grows (item.Jump c l) s from to ne = jump_grows c s (s == 2) (not (reaches from to)) refl ne
widened_grows _ s from to ne = absurd (ne refl)
