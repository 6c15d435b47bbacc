-- Sorted numbers ascend.
use Rattle.std.proofs.Common.{◌≡◌, ℕ, zero, suc, ◌<◌, ◌≤◌, inl, inr, List, [], ◌∷◌, length, refl, sym, subst, arith}
use Rattle.std.specs.Prelude.{slice_index_or, IsPermutation}
use Rattle.std.specs.List.{All}
use Rattle.std.specs.List.Sorted.{IsNonDecreasing}
use Rattle.std.proofs.lemmas.List.Elements.{All-head, All-tail, All-cons, All-nil}
use Rattle.std.proofs.lemmas.List.Sorted.{All-permutation, IsPermutation-sym}
use Rattle.call_graph.specs.Paths.{IsIn}
use Rattle.least_paths.specs.Ascending.{IsAscending, IsArranged}

all_in : (P : ℕ → Type 0) (g : ℕ) (xs : List ℕ) → All P xs → IsIn g xs → P g
all_in P g [] all h = absurd h
all_in P g (x ∷ xs) all (inl same) = subst P (sym same) (All-head P x xs all)
all_in P g (x ∷ xs) all (inr h) = all_in P g xs (All-tail P x xs all) h

all_from : (P : ℕ → Type 0) (xs : List ℕ) → ((g : ℕ) → IsIn g xs → P g) → All P xs
all_from P [] h = All-nil P
all_from P (x ∷ xs) h = All-cons P x xs (h x (inl refl)) (all_from P xs (λ g there. h g (inr there)))

moved : (xs ys : List ℕ) → IsPermutation xs ys → (y : ℕ) → IsIn y ys → IsIn y xs
moved xs ys same y there = all_in (λ x. IsIn x xs) y ys (All-permutation (λ x. IsIn x xs) xs ys same (all_from (λ x. IsIn x xs) xs (λ g h. h))) there

-- an element stands at a place
place : (y : ℕ) (xs : List ℕ) → IsIn y xs → (j : ℕ) × (j < length xs) × (slice_index_or xs j 0 ≡ y)
place y [] h = absurd h
place y (x ∷ xs) (inl same) = (0, omega arith, sym same)
place y (x ∷ xs) (inr h) = let p = place y xs h in (suc p.0, omega (arith, p.1), p.2)

-- by the places
abbrev Rises : List ℕ → Type 0
Rises xs = (i j : ℕ) → i ≤ j → j < length xs → slice_index_or xs i 0 ≤ slice_index_or xs j 0

ascends : (xs : List ℕ) → Rises xs → IsAscending xs
ascends [] h = tt
ascends (x ∷ xs) h = (
  λ y there. (let p = place y xs there in subst (λ v. x ≤ v) p.2 (h 0 (suc p.0) (omega arith) (omega (arith, p.1)))),
  ascends xs (λ i j le lt. h (suc i) (suc j) (omega (arith, le)) (omega (arith, lt))),
)

pub arranged : (xs ys : List ℕ) → IsPermutation xs ys → IsNonDecreasing ys → IsArranged xs ys
arranged xs ys same rises = record {
  ascending = ascends ys (λ i j le lt. rises i j 0 le lt);
  all = λ x there. moved ys xs (IsPermutation-sym xs ys same) x there;
  only = λ y there. moved xs ys same y there;
}
