-- Which parameters are pushed, as a flag for each.
use Rattle.std.specs.Prelude.{◌≡◌, ℕ, ◌+◌, ◌*◌, ◌<◌, Bool, not, List, [], ◌∷◌, drop, length, Option, Some, None, slice_index_or, if◌then◌else◌}
use Rattle.msp_select.specs.Frames.{count_pushed, is_among, pushed_behind}

-- a value that is a parameter twice is pushed where it is passed last
abbrev pub flags_of : List ℕ → List Bool
flags_of [] = []
flags_of (p ∷ ps) = not (is_among ps p) ∷ flags_of ps

-- the values whose flags are set
abbrev pub chosen : List Bool → List ℕ → List ℕ
chosen [] xs = []
chosen (b ∷ bs) [] = []
chosen (b ∷ bs) (x ∷ xs) = if b then x ∷ chosen bs xs else chosen bs xs

-- how many are pushed behind a parameter; None of another value
abbrev pub behind_in : List ℕ → ℕ → Option ℕ
behind_in ps v = if is_among ps v then Some (pushed_behind ps v) else None

-- a table that has these for each value
abbrev pub AreBehind : List ℕ → List (Option ℕ) → Type 0
AreBehind ps behind = (v : ℕ) → v < length behind → slice_index_or behind v None ≡ behind_in ps v

-- The last parameters, from a place on, are counted: how many are pushed, the flag of each, and what lies behind each value
pub record IsPushed (values : ℕ) (ps : List ℕ) (at words : ℕ) (flags : List Bool) (table : List (Option ℕ)) : Type 0 where
  pub count : words ≡ count_pushed ps
  pub each : drop at flags ≡ flags_of ps
  pub many : length table ≡ values
  pub behind : AreBehind ps table

-- the home of a value, where the next value that is no parameter has its home; and the next home behind it
abbrev pub home_at : Option ℕ → (own next : ℕ) → ℕ
home_at (Some words) own next = own + 2 + 2 * words
home_at None own next = next

abbrev pub next_home : Option ℕ → ℕ → ℕ
next_home (Some words) next = next
next_home None next = next + 2
