use Rattle.std.proofs.Common.{◌≡◌, ◌++◌, drop}
use Rattle.wire_units.specs.Lines.{lines_from}
use Rattle.wire_units.proofs.line.ask.Given as goal

abbrev pub invariant-loop-line : goal.invariant-loop-line
invariant-loop-line l = l.asks.items ++ lines_from l.table.units.now l.block (drop l.line-index l.lines) ≡ l.fn.asks.items ++ lines_from l.table.units.now l.fn.block l.lines
