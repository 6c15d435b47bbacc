use Rattle.std.proofs.Common.{◌≡◌, ◌≤◌, length}
use Rattle.mote_text.specs.ImageLines.{line_bytes, spaced_bytes}
use Rattle.mote_text.proofs.ImageBytes.{finished}
use Rattle.mote_text.proofs.image_line.line_bytes.Given as goal

abbrev pub invariant-loop-rest : goal.invariant-loop-rest
invariant-loop-rest l = record {
  few : length l.bytes.items ≤ 16;
  read : finished l.bytes.items (spaced_bytes l.rest) ≡ line_bytes l.line;
}

abbrev pub decreases-loop-rest : goal.decreases-loop-rest
decreases-loop-rest l = length l.rest
