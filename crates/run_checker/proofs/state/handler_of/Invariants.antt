use Rattle.std.proofs.Common.{◌≡◌, length}
use Rattle.nesc_core.specs.View.{program_of}
use Rattle.core_meaning.specs.SourceOf.{handler_in}
use Rattle.run_checker.proofs.state.handler_of.Given as goal

abbrev pub invariant-loop-handler : goal.invariant-loop-handler
invariant-loop-handler l = handler_in l.rest l.line ≡ handler_in (program_of l.p).handlers l.line

abbrev pub decreases-loop-handler : goal.decreases-loop-handler
decreases-loop-handler l = length l.rest
