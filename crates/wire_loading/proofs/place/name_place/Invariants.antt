use Rattle.std.proofs.Common.{◌≡◌, length}
use Rattle.wire_loading.specs.Places as spec
use Rattle.wire_loading.proofs.place.name_place.Given as goal

abbrev pub invariant-loop-token : goal.invariant-loop-token
invariant-loop-token l = spec.name_place l.rest ≡ spec.name_place l.tokens

abbrev pub decreases-loop-token : goal.decreases-loop-token
decreases-loop-token l = length l.rest
