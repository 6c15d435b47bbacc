use Rattle.std.proofs.Common.{◌≡◌, ◌+◌, ◌-◌, ◌≤◌, ◌<◌, ℕ, false, length, take}
use Rattle.nesc_tokens.specs.Lexes.{is_closed_comment}
use Rattle.nesc_tokens.proofs.pieces.block_comment.Given as goal

-- no comment ends so far
abbrev pub invariant-loop-at : goal.invariant-loop-at
invariant-loop-at l = record {
  from : 2 ≤ l.at;
  within : l.at ≤ length l.bytes + 2;
  none : (m : ℕ) → m < l.at + 2 → m ≤ length l.bytes → is_closed_comment (take m l.bytes) ≡ false;
}

abbrev pub decreases-loop-at : goal.decreases-loop-at
decreases-loop-at l = length l.bytes + 1 - l.at
