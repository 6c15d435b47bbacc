-- How the kernel's bytes stand for a list of tasks: the first and the last task, and for each task the one behind it (own).
use Rattle.std.specs.Prelude.{◌≡◌, ℕ, ◌+◌, ◌<◌, ◌==◌, nat_le, nat_lt, Bool, false, ◌&&◌, if◌then◌else◌, List, [], ◌∷◌, length}
use Rattle.run_meaning.specs.Runs.{is_listed}
use Rattle.nesc_core.specs.Plain.{Program}
use Rattle.nesc_core.specs.Weights.{even, objects_end}

-- in a byte the task at place k is k + 1, and 0 is none
abbrev pub entry_of : List ℕ → ℕ
entry_of [] = 0
entry_of (k ∷ rest) = k + 1

abbrev pub last_of : List ℕ → ℕ
last_of [] = 0
last_of (k ∷ []) = k + 1
last_of (k ∷ j ∷ rest) = last_of (j ∷ rest)

-- the task behind task k
abbrev pub behind : List ℕ → ℕ → ℕ
behind [] k = 0
behind (j ∷ rest) k = if j == k then entry_of rest else behind rest k

-- each task is one of `count`, and stands there once
abbrev pub AreTasks : (count : ℕ) → List ℕ → Type 0
AreTasks count [] = Unit {0}
AreTasks count (k ∷ rest) = (k < count) × (is_listed rest k ≡ false) × AreTasks count rest

-- from this address on, for so many tasks; every other task has none behind it
pub record StandFor (address count : ℕ) (st : ℕ → ℕ) (tasks : List ℕ) : Type 0 where
  pub head : st address ≡ entry_of tasks
  pub tail : st (address + 1) ≡ last_of tasks
  pub next : (k : ℕ) → k < count → st (address + (k + 2)) ≡ behind tasks k
  pub are : AreTasks count tasks

abbrev pub address_in : Program → ℕ
address_in p = even (objects_end p)

abbrev pub is_byte_in : Program → ℕ → Bool
is_byte_in p x = nat_le (address_in p) x && nat_lt x (address_in p + (length p.tasks + 2))

abbrev pub StandsIn : Program → (ℕ → ℕ) → List ℕ → Type 0
StandsIn p st tasks = StandFor (address_in p) (length p.tasks) st tasks
