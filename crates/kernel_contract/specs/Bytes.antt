-- Whether the kernel's bytes stand for a list of tasks, as a test (own).
use Rattle.std.specs.Prelude.{ℕ, zero, suc, ◌+◌, ◌==◌, nat_lt, Bool, true, not, ◌&&◌, List, [], ◌∷◌, length}
use Rattle.run_meaning.specs.Runs.{is_listed}
use Rattle.core_meaning.specs.SourceOf.{put_last}
use Rattle.nesc_core.specs.Plain.{Program}
use Rattle.queue_law.specs.Bytes.{address_in, behind, entry_of, is_byte_in, last_of}
use Rattle.queue_law.specs.Law as law
use Rattle.loop_runs.specs.Kernel.{Queue}

abbrev pub each_below : ℕ → (ℕ → Bool) → Bool
each_below zero test = true
each_below (suc n) test = test n && each_below n test

abbrev pub are_tasks : (count : ℕ) → List ℕ → Bool
are_tasks count [] = true
are_tasks count (k ∷ rest) = (nat_lt k count && not (is_listed rest k)) && are_tasks count rest

-- from this address on, for so many tasks
abbrev pub stand_for : (address count : ℕ) → (ℕ → ℕ) → List ℕ → Bool
stand_for address count st tasks =
    ((st address == entry_of tasks) && (st (address + 1) == last_of tasks)) && (each_below count (λ k. st (address + (k + 2)) == behind tasks k) && are_tasks count tasks)

-- the queue of a program's kernel
abbrev pub queue_of : Program → Queue
queue_of p = record {
  is_byte = is_byte_in p;
  stands = stand_for (address_in p) (length p.tasks);
  posting = law.posting;
  taking = law.taking;
  insert = put_last;
}
