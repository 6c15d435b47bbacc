use Rattle.std.proofs.Common.{ℕ, drop}
use Rattle.std.specs.Prelude.{◌≢◌}
use Rattle.well_formed.specs.Formed.{Each}
use Rattle.program_builder.proofs.apart.is_other.Given as goal

abbrev pub invariant-loop-task : goal.invariant-loop-task
invariant-loop-task l = Each (λ (g : ℕ). l.body ≢ g) (drop l.task-index l.tasks) → Each (λ (g : ℕ). l.body ≢ g) l.tasks
