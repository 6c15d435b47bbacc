use Rattle.std.proofs.Common.{◌≡◌, [], length}
use Rattle.nesc_preproc.specs.Definitions.{angled}
use Rattle.nesc_preproc.proofs.definitions.angled.Given as goal

abbrev pub invariant-loop-rest : goal.invariant-loop-rest
invariant-loop-rest l = angled l.last l.spelling.items l.rest ≡ angled l.fn.bracket [] l.fn.tokens

abbrev pub decreases-loop-rest : goal.decreases-loop-rest
decreases-loop-rest l = length l.rest
