use Rattle.std.proofs.Common.{◌≡◌, ◌++◌, map}
use Rattle.std.specs.List.{range_with_len}
use Rattle.nesc_core.specs.View.{program_of}
use Rattle.program_image.specs.Order.{line_of}
use Rattle.program_builder.proofs.code.add_lines.Given as goal

abbrev pub invariant-loop-line : goal.invariant-loop-line
invariant-loop-line l = l.code.items ≡ l.fn.code.items ++ map (line_of (program_of l.p)) (range_with_len 0 l.line)
