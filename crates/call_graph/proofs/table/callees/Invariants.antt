use Rattle.std.proofs.Common.{◌≡◌, map, take}
use Rattle.call_graph.proofs.Tables.{row_of}
use Rattle.call_graph.proofs.table.callees.Given as goal

abbrev pub invariant-loop-body : goal.invariant-loop-body
invariant-loop-body l = l.table.items ≡ map (row_of l.is_bare) (take l.body-index l.body-items)
