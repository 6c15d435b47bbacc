use Rattle.std.proofs.Common.{◌-◌, length}
use Rattle.nesc_tokens.specs.Longest.{IsTextItem}
use Rattle.nesc_tokens.proofs.literals.text_body.Given as goal

-- the literal goes on behind what was read
abbrev pub invariant-loop-at : goal.invariant-loop-at
invariant-loop-at l = IsTextItem l.at l.bytes

abbrev pub decreases-loop-at : goal.decreases-loop-at
decreases-loop-at l = length l.bytes - l.at
