-- Body numbers in ascending order (own).
use Rattle.std.specs.Prelude.{⊤, ℕ, ◌≤◌, List, [], ◌∷◌}
use Rattle.call_graph.specs.Paths.{IsIn}

abbrev pub IsAscending : List ℕ → Type 0
IsAscending [] = ⊤
IsAscending (x ∷ xs) = ((y : ℕ) → IsIn y xs → x ≤ y) × IsAscending xs

-- the second has the numbers of the first, in order
pub record IsArranged (xs ys : List ℕ) : Type 0 where
  pub ascending : IsAscending ys
  pub all : (x : ℕ) → IsIn x xs → IsIn x ys
  pub only : (y : ℕ) → IsIn y ys → IsIn y xs
