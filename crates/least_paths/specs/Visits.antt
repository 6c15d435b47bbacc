-- One step of a search: the bodies that one body calls, or the roots (own).
use Rattle.std.specs.Prelude.{ℕ, Bool, true, false, if◌then◌else◌, List, [], ◌∷◌, ◌++◌, Option, Some, None, slice_index_or, slice_set}
use Rattle.least_paths.specs.declared.ways.Way.{Way}
use Rattle.least_paths.specs.declared.ways.Way.TheVariants.{Root, CalledBy}

abbrev pub is_some : Option Way → Bool
is_some None = false
is_some (Some way) = true

abbrev pub is_none : Option Way → Bool
is_none None = true
is_none (Some way) = false

abbrev pub way_at : List (Option Way) → ℕ → Option Way
way_at ways f = slice_index_or ways f None

abbrev pub is_found : List (Option Way) → ℕ → Bool
is_found ways f = is_some (way_at ways f)

-- there is such a body, and it is not found
abbrev pub is_new : List (Option Way) → ℕ → Bool
is_new ways f = is_none (slice_index_or ways f (Some Root))

-- a new body waits from now on
abbrev pub with_way : (ways : List (Option Way)) (f : ℕ) → Way → List (Option Way)
with_way ways f way = if is_new ways f then slice_set ways f (Some way) else ways

abbrev pub waiting_with : (ways : List (Option Way)) (waiting : List ℕ) (f : ℕ) → List ℕ
waiting_with ways waiting f = if is_new ways f then waiting ++ f ∷ [] else waiting

-- each of these bodies, one after the other
abbrev pub all_ways : Way → (ways : List (Option Way)) → (bodies : List ℕ) → List (Option Way)
all_ways way ways [] = ways
all_ways way ways (f ∷ bodies) = all_ways way (with_way ways f way) bodies

abbrev pub all_waiting : Way → (ways : List (Option Way)) (waiting : List ℕ) → (bodies : List ℕ) → List ℕ
all_waiting way ways waiting [] = waiting
all_waiting way ways waiting (f ∷ bodies) = all_waiting way (with_way ways f way) (waiting_with ways waiting f) bodies

-- the body that calls another on the way to it
abbrev pub caller_in : Way → Option ℕ
caller_in Root = None
caller_in (CalledBy f) = Some f

abbrev pub caller_at : Option Way → Option ℕ
caller_at None = None
caller_at (Some way) = caller_in way
