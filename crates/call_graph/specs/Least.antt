-- The shortest path, and of these the least by body numbers, as it can be found: how far each body is from an end, and then, from
-- the root on, always the least body from which the rest can still be gone.
use Rattle.std.specs.Prelude.{◌≡◌, ℕ, zero, suc, ◌<◌, min, Bool, true, false, if◌then◌else◌, List, [], ◌∷◌, Option, Some, None}
use Rattle.std.specs.List.{list_any}
use Rattle.call_graph.specs.Paths.{IsPath, IsLeast}

abbrev pub at_most : ℕ → Option ℕ → ℕ
at_most x None = x
at_most x (Some y) = min x y

abbrev pub least : (ℕ → Bool) → List ℕ → Option ℕ
least test [] = None
least test (x ∷ xs) = if test x then Some (at_most x (least test xs)) else least test xs

-- the first of so many numbers from n on that passes
abbrev pub first_from : (test : ℕ → Bool) → (n bound : ℕ) → Option ℕ
first_from test n zero = None
first_from test n (suc bound) = if test n then Some n else first_from test (suc n) bound

module _ (steps : ℕ → List ℕ) (is_end : ℕ → Bool) where
  -- some path of n calls leads from g to an end
  abbrev pub can : (n g : ℕ) → Bool
  can zero g = is_end g
  can (suc n) g = list_any (can n) (steps g)

  abbrev pub onward : (ℕ → List ℕ) → Option ℕ → List ℕ
  onward rest None = []
  onward rest (Some h) = h ∷ rest h

  -- the bodies behind g
  abbrev pub best : (n g : ℕ) → List ℕ
  best zero g = []
  best (suc n) g = onward (best n) (least (can n) (steps g))

  abbrev pub path_of : (roots : List ℕ) (n : ℕ) → List ℕ
  path_of roots n = onward (best n) (least (can n) roots)

  -- a path from one of the roots to an end
  abbrev pub IsOne : (roots : List ℕ) → List ℕ → Type 0
  IsOne roots path = (last : ℕ) × IsPath roots steps path last × (is_end last ≡ true)

  abbrev pub path_at : (roots : List ℕ) → Option ℕ → Option (List ℕ)
  path_at roots None = None
  path_at roots (Some n) = Some (path_of roots n)

  -- the least path, where one of fewer than `bound` calls leads to an end
  abbrev pub least_path : (roots : List ℕ) (bound : ℕ) → Option (List ℕ)
  least_path roots bound = path_at roots (first_from (λ n. list_any (can n) roots) 0 bound)

abbrev pub EachPathIsLeast : Type 0
EachPathIsLeast = (steps : ℕ → List ℕ) (is_end : ℕ → Bool) (roots : List ℕ) (n : ℕ) → list_any (can steps is_end n) roots ≡ true
    → ((m : ℕ) → m < n → list_any (can steps is_end m) roots ≡ false) → IsLeast (IsOne steps is_end roots) (path_of steps is_end roots n)
