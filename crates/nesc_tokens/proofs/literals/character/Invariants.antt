use Rattle.std.proofs.Common.{◌≡◌, ◌<◌, ◌≤◌, ℕ, false, length, take}
use Rattle.nesc_tokens.specs.CodePoints.{apostrophe}
use Rattle.nesc_tokens.specs.Spelling.{is_quoted, is_char_body}
use Rattle.nesc_tokens.proofs.literals.character.Given as goal

-- no longer front is a literal
abbrev pub invariant-loop-n : goal.invariant-loop-n
invariant-loop-n l = record {
  within : l.n ≤ length l.bytes;
  longer : (m : ℕ) → l.n < m → m ≤ length l.bytes → is_quoted apostrophe is_char_body (take m l.bytes) ≡ false;
}

abbrev pub decreases-loop-n : goal.decreases-loop-n
decreases-loop-n l = l.n
