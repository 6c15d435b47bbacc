use Rattle.call_graph.proofs.Tables.{table_at_end}
use Rattle.call_graph.proofs.table.callees.Goals as goal

pub returns-clause-rows : goal.returns-clause-rows
returns-clause-rows c = table_at_end c.args.is_bare c.args.p.now _ c.loop-body.body-index _ c.as_slice-body-items.ensures c.loop-body-test.false c.loop-body.invariant
