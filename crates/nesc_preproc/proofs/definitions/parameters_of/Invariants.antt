use Rattle.std.proofs.Common.{◌≡◌, [], length}
use Rattle.nesc_preproc.specs.Definitions.{parameters_of}
use Rattle.nesc_preproc.proofs.definitions.parameters_of.Given as goal

abbrev pub invariant-loop-parameter : goal.invariant-loop-parameter
invariant-loop-parameter l = parameters_of l.fn.name l.parameters.items l.rest ≡ parameters_of l.fn.name [] l.fn.tokens

abbrev pub decreases-loop-parameter : goal.decreases-loop-parameter
decreases-loop-parameter l = length l.rest
