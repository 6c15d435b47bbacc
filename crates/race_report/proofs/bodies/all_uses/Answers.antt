use Rattle.call_graph.proofs.Tables.{counted_body}
use Rattle.race_report.proofs.bodies.all_uses.Goals as goal

pub uses_in-requires : goal.uses_in-requires
uses_in-requires c =
    counted_body c.args.p.now c.as_slice-body-items.result.now c.loop-body.body-index c.body-item.result c.requires c.as_slice-body-items.ensures c.loop-body-test.true c.body-item.is
