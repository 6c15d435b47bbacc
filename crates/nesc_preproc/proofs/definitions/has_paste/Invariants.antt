use Rattle.std.proofs.Common.{◌≡◌, length}
use Rattle.nesc_preproc.specs.Definitions.{has_paste}
use Rattle.nesc_preproc.proofs.definitions.has_paste.Given as goal

abbrev pub invariant-loop-rest : goal.invariant-loop-rest
invariant-loop-rest l = has_paste l.rest ≡ has_paste l.tokens

abbrev pub decreases-loop-rest : goal.decreases-loop-rest
decreases-loop-rest l = length l.rest
