-- The order of chains that are given from their last body back.
use Rattle.std.proofs.Common.{◌≡◌, ℕ, ◌+◌, ◌<◌, ◌≤◌, ◌⊎◌, inl, inr, List, [], ◌∷◌, length, refl, sym, subst, ap, arith, ◌∙◌}
use Rattle.call_graph.specs.Paths.{IsBelow, IsNoWorse}
use Rattle.least_paths.specs.Backward.{turned, IsUnder}
use Rattle.call_graph.proofs.Lists.{nat_either}

pub irreflexive : (xs : List ℕ) → IsUnder xs xs → ⊥
irreflexive [] h = h
irreflexive (x ∷ xs) (inl h) = irreflexive xs h
irreflexive (x ∷ xs) (inr h) = omega (arith, h.1)

pub transitive : (xs ys zs : List ℕ) → IsUnder xs ys → IsUnder ys zs → IsUnder xs zs
transitive [] [] zs h k = absurd h
transitive [] (y ∷ ys) [] h k = absurd k
transitive [] (y ∷ ys) (z ∷ zs) h k = tt
transitive (x ∷ xs) [] zs h k = absurd h
transitive (x ∷ xs) (y ∷ ys) [] h k = absurd k
transitive (x ∷ xs) (y ∷ ys) (z ∷ zs) (inl h) (inl k) = inl (transitive xs ys zs h k)
transitive (x ∷ xs) (y ∷ ys) (z ∷ zs) (inl h) (inr k) = inl (subst (IsUnder xs) k.0 h)
transitive (x ∷ xs) (y ∷ ys) (z ∷ zs) (inr h) (inl k) = inl (subst (λ v. IsUnder v zs) (sym h.0) k)
transitive (x ∷ xs) (y ∷ ys) (z ∷ zs) (inr h) (inr k) = inr (h.0 ∙ k.0, omega (arith, h.1, k.1))

pub both_same : (x y : ℕ) (xs ys : List ℕ) → x ≡ y → xs ≡ ys → (x ∷ xs) ≡ (y ∷ ys)
both_same x y xs ys e f = ap (λ z. z ∷ xs) e ∙ ap (λ zs. y ∷ zs) f

pub either : (xs ys : List ℕ) → IsUnder xs ys ⊎ ((xs ≡ ys) ⊎ IsUnder ys xs)
either [] [] = inr (inl refl)
either [] (y ∷ ys) = inl tt
either (x ∷ xs) [] = inr (inr tt)
either (x ∷ xs) (y ∷ ys) = by_rest (either xs ys)
  where
    by_number : xs ≡ ys → (x ≤ y) ⊎ (y < x) → (y ≤ x) ⊎ (x < y) → IsUnder (x ∷ xs) (y ∷ ys) ⊎ (((x ∷ xs) ≡ (y ∷ ys)) ⊎ IsUnder (y ∷ ys) (x ∷ xs))
    by_number same (inl le) (inl ge) = inr (inl (both_same x y xs ys (omega (arith, le, ge)) same))
    by_number same (inl le) (inr lt) = inl (inr (same, lt))
    by_number same (inr gt) other = inr (inr (inr (sym same, gt)))

    by_rest : IsUnder xs ys ⊎ ((xs ≡ ys) ⊎ IsUnder ys xs) → IsUnder (x ∷ xs) (y ∷ ys) ⊎ (((x ∷ xs) ≡ (y ∷ ys)) ⊎ IsUnder (y ∷ ys) (x ∷ xs))
    by_rest (inl h) = inl (inl h)
    by_rest (inr (inl same)) = by_number same (nat_either x y) (nat_either y x)
    by_rest (inr (inr h)) = inr (inr (inl h))

pub longer : (xs : List ℕ) (x : ℕ) → IsUnder xs (x ∷ xs)
longer [] x = tt
longer (y ∷ ys) x = inl (longer ys y)

-- ---- as lists from the root on

same_front : (xs us vs : List ℕ) → IsBelow us vs → IsBelow (turned xs us) (turned xs vs)
same_front [] us vs h = h
same_front (x ∷ xs) us vs h = same_front xs (x ∷ us) (x ∷ vs) (inr (refl, h))

length_turned : (xs us : List ℕ) → length (turned xs us) ≡ length xs + length us
length_turned [] us = omega arith
length_turned (x ∷ xs) us = omega (arith, length_turned xs (x ∷ us))

-- whatever comes behind
abbrev Lower : List ℕ → List ℕ → Type 0
Lower xs ys = (length xs < length ys) ⊎ ((length xs ≡ length ys) × ((us vs : List ℕ) → IsBelow (turned xs us) (turned ys vs)))

lower : (xs ys : List ℕ) → IsUnder xs ys → Lower xs ys
lower [] [] h = absurd h
lower [] (y ∷ ys) h = inl (omega arith)
lower (x ∷ xs) [] h = absurd h
lower (x ∷ xs) (y ∷ ys) (inl h) = elim (lower xs ys h) [ inl lt ↦ inl (omega (arith, lt)) | inr e ↦ inr (omega (arith, e.0), λ us vs. e.1 (x ∷ us) (y ∷ vs)) ]
lower (x ∷ xs) (y ∷ ys) (inr h) =
    let long : length xs ≡ length ys = ap length h.0 in
    inr (omega (arith, long), λ us vs. subst (λ l. IsBelow (turned xs (x ∷ us)) (turned l (y ∷ vs))) h.0 (same_front xs (x ∷ us) (y ∷ vs) (inl h.1)))

pub no_worse : (xs ys : List ℕ) → IsUnder xs ys → IsNoWorse (turned xs []) (turned ys [])
no_worse xs ys h = elim (lower xs ys h) [
  | inl lt ↦ inl (omega (arith, lt, length_turned xs [], length_turned ys []))
  | inr e ↦ inr (omega (arith, e.0, length_turned xs [], length_turned ys []), e.1 [] [])
]

not_above : (xs : List ℕ) → IsBelow xs xs
not_above [] = tt
not_above (x ∷ xs) = inr (refl, not_above xs)

pub same_no_worse : (xs ys : List ℕ) → xs ≡ ys → IsNoWorse xs ys
same_no_worse xs ys same = subst (IsNoWorse xs) same (inr (refl, not_above xs))
