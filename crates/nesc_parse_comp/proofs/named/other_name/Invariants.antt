-- The name stands among the tokens that are left.
use Rattle.std.proofs.Common.{◌≡◌, length}
use Rattle.nesc_parse_comp.specs.Named.{named}
use Rattle.nesc_parse_comp.proofs.named.other_name.Given as goal

abbrev pub invariant-loop-token : goal.invariant-loop-token
invariant-loop-token l = named l.rest ≡ named l.ts

abbrev pub decreases-loop-token : goal.decreases-loop-token
decreases-loop-token l = length l.rest
