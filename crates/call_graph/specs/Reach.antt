-- One step of finding what chains of calls reach (own).
use Rattle.std.specs.Prelude.{ℕ, Bool, true, if◌then◌else◌, List, [], ◌∷◌, ◌++◌, slice_index_or, slice_set}

-- a body that was not marked waits from now on
abbrev pub waiting_with : (marks : List Bool) (waiting : List ℕ) (f : ℕ) → List ℕ
waiting_with marks waiting f = if slice_index_or marks f true then waiting else waiting ++ f ∷ []

-- each of these bodies, one after the other
abbrev pub all_marked : (marks : List Bool) → (bodies : List ℕ) → List Bool
all_marked marks [] = marks
all_marked marks (f ∷ bodies) = all_marked (slice_set marks f true) bodies

abbrev pub all_waiting : (marks : List Bool) (waiting : List ℕ) → (bodies : List ℕ) → List ℕ
all_waiting marks waiting [] = waiting
all_waiting marks waiting (f ∷ bodies) = all_waiting (slice_set marks f true) (waiting_with marks waiting f) bodies
