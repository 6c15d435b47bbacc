use Rattle.std.proofs.Common.{◌≡◌, ◌+◌, ◌-◌, ◌≤◌, ◌++◌, drop, length}
use Rattle.nesc_tokens.specs.Splices.{placed, spliced, source_of}
use Rattle.nesc_tokens.proofs.splice.source_bytes.Given as goal

-- what was read so far, and what is still read, is all; no line or column is past the bytes so far
abbrev pub invariant-loop-at : goal.invariant-loop-at
invariant-loop-at l = record {
  within : l.at ≤ length l.text;
  read : l.source.items ++ spliced (placed l.line l.col (drop l.at l.text)) ≡ source_of l.text;
  line : l.line ≤ l.at + 1;
  col : l.col ≤ l.at + 1;
}

abbrev pub decreases-loop-at : goal.decreases-loop-at
decreases-loop-at l = length l.text - l.at
