-- The tasks of a program by their places.
use Rattle.std.proofs.Common.{◌≡◌, ℕ, zero, suc, ◌<◌, ◌≤◌, List, [], ◌∷◌, length, map, Some, None, refl, arith}
use Rattle.std.specs.Prelude.{slice_get, slice_index}

-- the function of the task at a place, and where it starts
pub record TaskAt (entries : ℕ → ℕ) (tasks : List ℕ) (k : ℕ) : Type 0 where
  pub f : ℕ
  pub is : slice_get tasks k ≡ Some f
  pub start : slice_index (map entries tasks) k ≡ entries f

pub task_at : (entries : ℕ → ℕ) (tasks : List ℕ) (k : ℕ) → k < length (map entries tasks) → TaskAt entries tasks k
task_at entries [] k lt = absurd (omega (arith, lt))
task_at entries (t ∷ tasks) zero lt = record { f = t; is = refl; start = refl }
task_at entries (t ∷ tasks) (suc k) lt = let h = task_at entries tasks k (omega (arith, lt)) in record { f = h.f; is = h.is; start = h.start }

pub none_at : (entries : ℕ → ℕ) (tasks : List ℕ) (k : ℕ) → length (map entries tasks) ≤ k → slice_get tasks k ≡ None
none_at entries [] k le = refl
none_at entries (t ∷ tasks) zero le = absurd (omega (arith, le))
none_at entries (t ∷ tasks) (suc k) le = none_at entries tasks k (omega (arith, le))
