-- What a search has found: a least chain to each body to which one leads, in the order of these chains (own).
use Rattle.std.specs.Prelude.{⊤, ◌≡◌, ℕ, ◌<◌, ◌≤◌, ◌==◌, ◌⊎◌, Bool, true, if◌then◌else◌, List, [], ◌∷◌, length, Option, Some, None}
use Rattle.call_graph.specs.Paths.{IsIn, IsLeast}
use Rattle.call_graph.specs.Least.{IsOne}
use Rattle.least_paths.specs.declared.ways.Way.{Way}
use Rattle.least_paths.specs.declared.ways.Way.TheVariants.{Root, CalledBy}
use Rattle.least_paths.specs.declared.ways.Search.{Search}
use Rattle.least_paths.specs.Backward.{IsBack, EndsAt, IsUnder, AreRising, ends}
use Rattle.least_paths.specs.Visits.{way_at, is_found}

-- how a search comes from a chain to the next body
abbrev pub way_of : List ℕ → Way
way_of [] = Root
way_of (f ∷ rest) = CalledBy f

-- the ways lead back along this chain
abbrev pub IsTraced : List (Option Way) → List ℕ → Type 0
IsTraced ways [] = ⊤
IsTraced ways (f ∷ rest) = (way_at ways f ≡ Some (way_of rest)) × IsTraced ways rest

-- such a chain to body f, no longer than there are bodies
pub record HasChain (ways : List (Option Way)) (f : ℕ) : Type 0 where
  pub back : List ℕ
  pub ends : EndsAt f back
  pub traced : IsTraced ways back
  pub short : length back ≤ length ways

pub record IsSearch (roots : List ℕ) (steps : ℕ → List ℕ) (count : ℕ) (s : Search) : Type 0 where
  pub size : length s.ways.items ≡ count
  pub paths : List (List ℕ)
  pub order : ends paths ≡ s.order.items
  pub back : (p : List ℕ) → IsIn p paths → IsBack roots steps p
  pub traced : (p : List ℕ) → IsIn p paths → IsTraced s.ways.items p
  pub short : (p : List ℕ) → IsIn p paths → length p ≤ count
  pub rising : AreRising paths
  pub least : (f : ℕ) (p q : List ℕ) → IsIn p paths → EndsAt f p → IsBack roots steps q → EndsAt f q → (p ≡ q) ⊎ IsUnder p q
  pub found : (f : ℕ) → is_found s.ways.items f ≡ true → (p : List ℕ) × IsIn p paths × EndsAt f p
  pub complete : (f : ℕ) (q : List ℕ) → f < count → IsBack roots steps q → EndsAt f q → is_found s.ways.items f ≡ true

abbrev pub IsSearched : Search → Type 0
IsSearched s = (roots : List ℕ) × (steps : ℕ → List ℕ) × (count : ℕ) × IsSearch roots steps count s

-- the least path of these, where there is one
abbrev pub IsLeastOrNone : (IsOne : List ℕ → Type 0) → Option (List ℕ) → Type 0
IsLeastOrNone IsOne None = (path : List ℕ) → IsOne path → ⊥
IsLeastOrNone IsOne (Some path) = IsLeast IsOne path

-- whatever was searched, this is the least path to body f
abbrev pub IsLeastTo : Search → (f : ℕ) → Option (List ℕ) → Type 0
IsLeastTo s f found =
    (roots : List ℕ) (steps : ℕ → List ℕ) (count : ℕ) → IsSearch roots steps count s → f < count → IsLeastOrNone (IsOne steps (λ g. g == f) roots) found

-- the first of these bodies that passes
abbrev pub first_end : (ℕ → Bool) → List ℕ → Option ℕ
first_end test [] = None
first_end test (f ∷ fs) = if test f then Some f else first_end test fs
