-- Hide sets as the code keeps them: in a table of links, each of which adds a number to an earlier set (own).
use Rattle.std.specs.Prelude.{◌≡◌, ℕ, zero, suc, ◌+◌, Bool, true, false, ◌&&◌, List, [], ◌∷◌, ◌++◌, nat_eq, nat_le, Option, Some, None, slice_get}
use Rattle.nesc_macros.specs.declared.hide_sets.HideSet.{HideSet}
use Rattle.nesc_macros.specs.declared.hide_sets.Link.{Link}

-- the number of the link and the others lie within the bounds of the set, which has one number more than they are
abbrev pub is_link_of : HideSet → Link → Bool
is_link_of s l =
    (nat_le s.least l.number && nat_le l.number s.greatest) && (nat_le s.least l.rest.least && (nat_le l.rest.greatest s.greatest && nat_eq s.len (l.rest.len + 1)))

abbrev pub numbers_by : ℕ → List Link → HideSet → List ℕ
numbers_by zero links s = []
numbers_by (suc n) links s = elim (slice_get links s.place) [
  | None ↦ []
  | Some l ↦ elim (is_link_of s l) [ true ↦ l.number ∷ numbers_by n links l.rest | false ↦ [] ]
]

-- the numbers of a set, the newest first
unfoldable pub numbers_in : List Link → HideSet → List ℕ
numbers_in links s = numbers_by s.len links s

-- each link stays at its place
abbrev pub Extends : List Link → List Link → Type 0
Extends old new = (i : ℕ) (l : Link) → slice_get old i ≡ Some l → slice_get new i ≡ Some l

-- the newest number of a set, if it has one, and the others
abbrev pub IsNewest : List Link → HideSet → Option Link → Type 0
IsNewest links s None = numbers_in links s ≡ []
IsNewest links s (Some l) = numbers_in links s ≡ l.number ∷ numbers_in links l.rest

abbrev pub EndsWith : List ℕ → List ℕ → Type 0
EndsWith xs ys = (front : List ℕ) × (xs ≡ front ++ ys)

-- these are the numbers of the set, in a table
abbrev pub AreOf : HideSet → List ℕ → Type 0
AreOf s numbers = (links : List Link) × (numbers ≡ numbers_in links s)
