-- What is in a list.
use Rattle.std.proofs.Common.{◌≡◌, ℕ, zero, suc, ◌<◌, ◌≤◌, Bool, true, false, ◌⊎◌, inl, inr, List, [], ◌∷◌, ◌++◌, map, Some, refl, sym, subst, arith}
use Rattle.std.specs.Prelude.{slice_get, ◌||◌}
use Rattle.std.specs.List.{list_any, flat_map}
use Rattle.std.proofs.lemmas.Bool.{false≢true}
use Rattle.std.proofs.lemmas.Option.{none-some, same_Some}
use Rattle.call_graph.specs.Paths.{IsIn, below}

pub nat_either : (a b : ℕ) → (a ≤ b) ⊎ (b < a)
nat_either zero b = inl (omega arith)
nat_either (suc a) zero = inr (omega arith)
nat_either (suc a) (suc b) = elim (nat_either a b) [ inl le ↦ inl (omega (arith, le)) | inr lt ↦ inr (omega (arith, lt)) ]

pub in_either : {A : Type 0} (x : A) (xs ys : List A) → IsIn x (xs ++ ys) → IsIn x xs ⊎ IsIn x ys
in_either x [] ys h = inr h
in_either x (y ∷ xs) ys (inl same) = inl (inl same)
in_either x (y ∷ xs) ys (inr h) = elim (in_either x xs ys h) [ inl there ↦ inl (inr there) | inr there ↦ inr there ]

pub in_left : {A : Type 0} (x : A) (xs ys : List A) → IsIn x xs → IsIn x (xs ++ ys)
in_left x [] ys h = absurd h
in_left x (y ∷ xs) ys (inl same) = inl same
in_left x (y ∷ xs) ys (inr h) = inr (in_left x xs ys h)

pub in_right : {A : Type 0} (x : A) (xs ys : List A) → IsIn x ys → IsIn x (xs ++ ys)
in_right x [] ys h = h
in_right x (y ∷ xs) ys h = inr (in_right x xs ys h)

or_either : (a b : Bool) → (a || b) ≡ true → (a ≡ true) ⊎ (b ≡ true)
or_either true b h = inl refl
or_either false b h = inr h

pub record Found {A : Type 0} (P : A → Type 0) (xs : List A) : Type 0 where
  pub it : A
  pub there : IsIn it xs
  pub fact : P it

pub further : {A : Type 0} {P : A → Type 0} {xs : List A} (y : A) → Found P xs → Found P (y ∷ xs)
further y f = record { it = f.it; there = inr f.there; fact = f.fact }

pub any_found : {A : Type 0} (test : A → Bool) (xs : List A) → list_any test xs ≡ true → Found (λ x. test x ≡ true) xs
any_found test [] h = absurd (false≢true h)
any_found test (x ∷ xs) h = elim (or_either (test x) (list_any test xs) h) [
  | inl holds ↦ record { it = x; there = inl refl; fact = holds }
  | inr more ↦ further x (any_found test xs more)
]

pub found_any : {A : Type 0} (test : A → Bool) (x : A) (xs : List A) → IsIn x xs → test x ≡ true → list_any test xs ≡ true
found_any test x [] h holds = absurd h
found_any test x (y ∷ xs) (inl same) holds = let here : test y ≡ true = subst (λ z. test z ≡ true) same holds in rw here refl
found_any test x (y ∷ xs) (inr h) holds = or_right (test y) _ (found_any test x xs h holds)
  where
    or_right : (a b : Bool) → b ≡ true → (a || b) ≡ true
    or_right true b e = refl
    or_right false b e = e

pub map_found : {A B : Type 0} (f : A → B) (y : B) (xs : List A) → IsIn y (map f xs) → Found (λ x. y ≡ f x) xs
map_found f y [] h = absurd h
map_found f y (x ∷ xs) (inl same) = record { it = x; there = inl refl; fact = same }
map_found f y (x ∷ xs) (inr h) = further x (map_found f y xs h)

pub flat_found : {A B : Type 0} (f : A → List B) (y : B) (xs : List A) → IsIn y (flat_map f xs) → Found (λ x. IsIn y (f x)) xs
flat_found f y [] h = absurd h
flat_found f y (x ∷ xs) h = elim (in_either y (f x) (flat_map f xs) h) [
  | inl here ↦ record { it = x; there = inl refl; fact = here }
  | inr more ↦ further x (flat_found f y xs more)
]

pub in_flat : {A B : Type 0} (f : A → List B) (x : A) (y : B) (xs : List A) → IsIn x xs → IsIn y (f x) → IsIn y (flat_map f xs)
in_flat f x y [] h there = absurd h
in_flat f x y (z ∷ xs) (inl same) there = in_left y (f z) (flat_map f xs) (subst (λ w. IsIn y (f w)) same there)
in_flat f x y (z ∷ xs) (inr h) there = in_right y (f z) (flat_map f xs) (in_flat f x y xs h there)

pub in_at : {A : Type 0} (x : A) (xs : List A) (k : ℕ) → slice_get xs k ≡ Some x → IsIn x xs
in_at x [] k is = absurd (none-some x is)
in_at x (y ∷ xs) zero is = inl (sym (same_Some y x is))
in_at x (y ∷ xs) (suc k) is = inr (in_at x xs k is)

pub in_below : (k n : ℕ) → k < n → IsIn k (below n)
in_below k zero lt = absurd (omega (arith, lt))
in_below k (suc n) lt = elim (nat_either n k) [
  | inl le ↦ in_right k (below n) (n ∷ []) (inl (omega (arith, le, lt)))
  | inr less ↦ in_left k (below n) (n ∷ []) (in_below k n less)
]

pub below_less : (k n : ℕ) → IsIn k (below n) → k < n
below_less k zero h = absurd h
below_less k (suc n) h = elim (in_either k (below n) (n ∷ []) h) [ inl less ↦ omega (arith, below_less k n less) | inr last ↦ is_last last ]
  where
    is_last : IsIn k (n ∷ []) → k < suc n
    is_last (inl same) = omega (arith, same)
    is_last (inr none) = absurd none
