use Rattle.call_graph.proofs.Searching.{entry_then, entry_else}
use Rattle.call_graph.proofs.search.far_of.Goals as goal

pub returns-then-any_at : goal.returns-then-any_at
returns-then-any_at c = entry_then c.args.table.now c.args.far.now c.args.calls c.args.f _ c.distance.ensures c.in-None.is _ c.row.ensures _ c.any_at.ensures c.if-any_at.true

pub returns-else-any_at : goal.returns-else-any_at
returns-else-any_at c = entry_else c.args.table.now c.args.far.now c.args.calls c.args.f _ c.distance.ensures c.in-None.is _ c.row.ensures _ c.any_at.ensures c.if-any_at.false
