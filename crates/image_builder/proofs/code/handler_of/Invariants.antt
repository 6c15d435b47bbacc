use Rattle.std.proofs.Common.{◌≡◌, length}
use Rattle.core_meaning.specs.SourceOf.{handler_in}
use Rattle.image_builder.proofs.code.handler_of.Given as goal

abbrev pub invariant-loop-rest : goal.invariant-loop-rest
invariant-loop-rest l = handler_in l.rest l.line ≡ handler_in l.fn.handlers l.line

abbrev pub decreases-loop-rest : goal.decreases-loop-rest
decreases-loop-rest l = length l.rest
