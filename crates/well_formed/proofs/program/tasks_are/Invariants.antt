use Rattle.std.proofs.Common.{drop}
use Rattle.std.specs.Prelude.{slice_get}
use Rattle.nesc_core.specs.WellFormed.{IsRoot}
use Rattle.nesc_core.specs.View.{program_of}
use Rattle.well_formed.specs.Formed.{Each}
use Rattle.well_formed.proofs.program.tasks_are.Given as goal

abbrev pub invariant-loop-task : goal.invariant-loop-task
invariant-loop-task l = Each (λ f. IsRoot (slice_get (program_of l.p).bodies f)) (drop l.task-index l.task-items) → Each (λ f. IsRoot (slice_get (program_of l.p).bodies f)) l.task-items
