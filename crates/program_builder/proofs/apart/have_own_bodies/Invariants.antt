use Rattle.std.proofs.Common.{length}
use Rattle.program_builder.specs.Parts.{HaveOwnBodies}
use Rattle.program_builder.proofs.apart.have_own_bodies.Given as goal

abbrev pub invariant-loop-task : goal.invariant-loop-task
invariant-loop-task l = HaveOwnBodies l.left → HaveOwnBodies l.tasks

abbrev pub decreases-loop-task : goal.decreases-loop-task
decreases-loop-task l = length l.left
