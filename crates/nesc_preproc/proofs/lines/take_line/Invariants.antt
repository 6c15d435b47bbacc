use Rattle.std.proofs.Common.{◌≡◌, ◌++◌, length}
use Rattle.nesc_preproc.specs.Lines.{line_of, behind_line}
use Rattle.nesc_preproc.proofs.lines.take_line.Given as goal

abbrev pub invariant-loop-token : goal.invariant-loop-token
invariant-loop-token l = record {
  taken : l.line.items ++ line_of l.rest.items ≡ line_of l.fn.rest.items;
  left : behind_line l.rest.items ≡ behind_line l.fn.rest.items;
}

abbrev pub decreases-loop-token : goal.decreases-loop-token
decreases-loop-token l = length l.rest.items
