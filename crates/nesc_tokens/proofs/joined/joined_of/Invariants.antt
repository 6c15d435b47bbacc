use Rattle.std.proofs.Common.{◌≡◌, ◌++◌, false, length}
use Rattle.nesc_tokens.specs.Joined.{joined_of}
use Rattle.nesc_tokens.proofs.joined.joined_of.Given as goal

abbrev pub invariant-loop-rest : goal.invariant-loop-rest
invariant-loop-rest l = l.joined.items ++ joined_of l.split l.rest ≡ joined_of false l.source

abbrev pub decreases-loop-rest : goal.decreases-loop-rest
decreases-loop-rest l = length l.rest
