use Rattle.std.proofs.Common.{◌≡◌, ◌++◌, drop}
use Rattle.wire_uniques.specs.Parts as spec
use Rattle.wire_uniques.proofs.part.in_lines.Given as goal

abbrev pub invariant-loop-line : goal.invariant-loop-line
invariant-loop-line l = l.found.items ++ spec.in_lines (drop l.line-index l.line-items) ≡ l.fn.found.items ++ spec.in_lines l.lines
