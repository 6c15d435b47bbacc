use Rattle.std.proofs.Common.{length}
use Rattle.well_formed.specs.Formed.{HaveOwnLines}
use Rattle.well_formed.proofs.program.have_own_lines.Given as goal

abbrev pub invariant-loop-handler : goal.invariant-loop-handler
invariant-loop-handler l = HaveOwnLines l.left → HaveOwnLines l.handlers

abbrev pub decreases-loop-handler : goal.decreases-loop-handler
decreases-loop-handler l = length l.left
