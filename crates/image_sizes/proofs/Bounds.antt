-- The bytes of the functions of a list, where those of each have a bound.
use Rattle.std.proofs.Common.{ℕ, suc, ◌≤◌, List, [], ◌∷◌, ◌++◌, map, sum_by, arith}
use Rattle.std.specs.Prelude.{⊤, sum}
use Rattle.std.proofs.lemmas.List.Sums.{sum_by-cons}
use Rattle.msp_isa.specs.declared.code.CodeFn.{CodeFn}
use Rattle.msp_layout.specs.Bytes.{AreShortest}
use Rattle.msp_layout.specs.Sizes.{IsShortest}

-- however short its jumps are, a function takes at most so many bytes
abbrev pub IsBelow : CodeFn → ℕ → Type 0
IsBelow f n = (sizes : List ℕ) → IsShortest f.items sizes → sum sizes ≤ n

abbrev pub AreBelow : List CodeFn → List ℕ → Type 0
AreBelow [] [] = ⊤
AreBelow (f ∷ fs) (n ∷ ns) = IsBelow f n × AreBelow fs ns
AreBelow _ _ = ⊥

pub both_below : (a b : List CodeFn) (m n : List ℕ) → AreBelow a m → AreBelow b n → AreBelow (a ++ b) (m ++ n)
both_below [] b [] n h g = g
both_below [] b (x ∷ m) n h g = absurd h
both_below (f ∷ a) b [] n h g = absurd h
both_below (f ∷ a) b (x ∷ m) n h g = (h.0, both_below a b m n h.1 g)

-- the functions of some things
module _ {X : Type 0} (fn : X → CodeFn) (most : X → ℕ) (below : (x : X) → IsBelow (fn x) (most x)) where
  pub all_below : (xs : List X) → AreBelow (map fn xs) (map most xs)
  all_below [] = tt
  all_below (x ∷ xs) = (below x, all_below xs)

-- ---- sums

abbrev pub Each : List CodeFn → List (List ℕ) → Type 0
Each [] [] = ⊤
Each (f ∷ fs) (s ∷ sizes) = IsShortest f.items s × Each fs sizes
Each _ _ = ⊥

each_of : (code : List CodeFn) (sizes : List (List ℕ)) → AreShortest code sizes → Each code sizes
each_of [] [] h = tt
each_of [] (s ∷ sizes) h = absurd (let n = h.len in omega (arith, n))
each_of (f ∷ code) [] h = absurd (let n = h.len in omega (arith, n))
each_of (f ∷ code) (s ∷ sizes) h =
    (h.each 0 (omega arith), each_of code sizes (record { len = let n = h.len in omega (arith, n); each = λ k lt. h.each (suc k) (omega (arith, lt)) }))

sum_each : (code : List CodeFn) (sizes : List (List ℕ)) (bounds : List ℕ) → Each code sizes → AreBelow code bounds → sum_by sum sizes ≤ sum_by (λ n. n) bounds
sum_each [] [] [] h g = omega arith
sum_each [] [] (n ∷ bounds) h g = absurd g
sum_each [] (s ∷ sizes) bounds h g = absurd h
sum_each (f ∷ code) [] bounds h g = absurd h
sum_each (f ∷ code) (s ∷ sizes) [] h g = absurd g
sum_each (f ∷ code) (s ∷ sizes) (n ∷ bounds) h g =
    let e1 = sum_by-cons sum s sizes in
    let e2 = sum_by-cons (λ (m : ℕ). m) n bounds in
    let a = g.0 s h.0 in
    let b = sum_each code sizes bounds h.1 g.1 in
    omega (arith, e1, e2, a, b)

pub sum_below : (code : List CodeFn) (sizes : List (List ℕ)) (bounds : List ℕ) → AreShortest code sizes → AreBelow code bounds → sum_by sum sizes ≤ sum_by (λ n. n) bounds
sum_below code sizes bounds h g = sum_each code sizes bounds (each_of code sizes h) g
