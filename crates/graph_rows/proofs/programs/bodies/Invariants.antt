use Rattle.std.proofs.Common.{◌≡◌, length}
use Rattle.graph_rows.specs.Programs.{AreCallers}
use Rattle.graph_rows.proofs.programs.bodies.Given as goal

abbrev pub invariant-loop-f : goal.invariant-loop-f
invariant-loop-f l = (length l.list.items ≡ l.f) × AreCallers l.count l.list.items
