-- What is in a list.
use Rattle.std.proofs.Common.{◌≡◌, ℕ, zero, suc, Bool, true, false, cond, ◌⊎◌, inl, inr, List, [], ◌∷◌, ◌++◌, map, Some, refl, sym, subst, ap, All}
use Rattle.std.specs.Prelude.{slice_get, ◌||◌}
use Rattle.std.specs.List.{filter, list_any, flat_map}
use Rattle.std.proofs.lemmas.Bool.{false≢true}
use Rattle.std.proofs.lemmas.Option.{none-some, same_Some}
use Rattle.std.proofs.lemmas.List.Elements.{All-head, All-tail}

abbrev pub IsIn : {A : Type 0} → A → List A → Type 0
IsIn x [] = ⊥
IsIn x (y ∷ ys) = (x ≡ y) ⊎ IsIn x ys

pub in_either : {A : Type 0} (x : A) (xs ys : List A) → IsIn x (xs ++ ys) → IsIn x xs ⊎ IsIn x ys
in_either x [] ys h = inr h
in_either x (y ∷ xs) ys (inl same) = inl (inl same)
in_either x (y ∷ xs) ys (inr h) = elim (in_either x xs ys h) [ inl there ↦ inl (inr there) | inr there ↦ inr there ]

or_either : (a b : Bool) → (a || b) ≡ true → (a ≡ true) ⊎ (b ≡ true)
or_either true b h = inl refl
or_either false b h = inr h

pub record Found {A : Type 0} (P : A → Type 0) (xs : List A) : Type 0 where
  pub it : A
  pub there : IsIn it xs
  pub fact : P it

pub further : {A : Type 0} {P : A → Type 0} {xs : List A} (y : A) → Found P xs → Found P (y ∷ xs)
further y f = record { it = f.it; there = inr f.there; fact = f.fact }

pub any_found : {A : Type 0} (test : A → Bool) (xs : List A) → list_any test xs ≡ true → Found (λ x. test x ≡ true) xs
any_found test [] h = absurd (false≢true h)
any_found test (x ∷ xs) h = elim (or_either (test x) (list_any test xs) h) [
  | inl holds ↦ record { it = x; there = inl refl; fact = holds }
  | inr more ↦ further x (any_found test xs more)
]

pub map_found : {A B : Type 0} (f : A → B) (y : B) (xs : List A) → IsIn y (map f xs) → Found (λ x. y ≡ f x) xs
map_found f y [] h = absurd h
map_found f y (x ∷ xs) (inl same) = record { it = x; there = inl refl; fact = same }
map_found f y (x ∷ xs) (inr h) = further x (map_found f y xs h)

pub flat_found : {A B : Type 0} (f : A → List B) (y : B) (xs : List A) → IsIn y (flat_map f xs) → Found (λ x. IsIn y (f x)) xs
flat_found f y [] h = absurd h
flat_found f y (x ∷ xs) h = elim (in_either y (f x) (flat_map f xs) h) [
  | inl here ↦ record { it = x; there = inl refl; fact = here }
  | inr more ↦ further x (flat_found f y xs more)
]

by_test : {A : Type 0} (test : A → Bool) (y x : A) (xs ys : List A) → (IsIn y ys → IsIn y xs × (test y ≡ true))
    → (t : Bool) → test x ≡ t → IsIn y (cond t (x ∷ ys) ys) → IsIn y (x ∷ xs) × (test y ≡ true)
by_test test y x xs ys rest true is (inl same) = (inl same, subst (λ z. test z ≡ true) (sym same) is)
by_test test y x xs ys rest true is (inr there) = let more = rest there in (inr more.0, more.1)
by_test test y x xs ys rest false is there = let more = rest there in (inr more.0, more.1)

pub filter_found : {A : Type 0} (test : A → Bool) (y : A) (xs : List A) → IsIn y (filter test xs) → IsIn y xs × (test y ≡ true)
filter_found test y [] h = absurd h
filter_found test y (x ∷ xs) h = by_test test y x xs (filter test xs) (filter_found test y xs) (test x) refl h

pub place_of : {A : Type 0} (x : A) (xs : List A) → IsIn x xs → (k : ℕ) × (slice_get xs k ≡ Some x)
place_of x [] h = absurd h
place_of x (y ∷ xs) (inl same) = (0, ap Some (sym same))
place_of x (y ∷ xs) (inr h) = let more = place_of x xs h in (suc more.0, more.1)

pub all_in : {A : Type 0} (P : A → Type 0) (f : A) (fs : List A) → All P fs → IsIn f fs → P f
all_in P f [] all h = absurd h
all_in P f (g ∷ fs) all (inl same) = subst P (sym same) (All-head P g fs all)
all_in P f (g ∷ fs) all (inr h) = all_in P f fs (All-tail P g fs all) h

pub all_at : {A : Type 0} (P : A → Type 0) (xs : List A) (k : ℕ) (x : A) → slice_get xs k ≡ Some x → All P xs → P x
all_at P [] k x is all = absurd (none-some x is)
all_at P (y ∷ ys) zero x is all = subst P (same_Some y x is) (All-head P y ys all)
all_at P (y ∷ ys) (suc k) x is all = all_at P ys k x is (All-tail P y ys all)
