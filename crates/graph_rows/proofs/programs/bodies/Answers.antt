use Rattle.graph_rows.proofs.CallerLemmas.{one_caller_more, size_more}
use Rattle.graph_rows.proofs.programs.bodies.Goals as goal

pub loop-f-preserved : goal.loop-f-preserved
loop-f-preserved c = (
  size_more c.loop-f.list.items c.push.new.self.items c.in_ok-body.field-0 c.loop-f.f c.loop-f.invariant.0 c.in_ok-push.ensures.items,
  one_caller_more c.args.count c.loop-f.list.items c.push.new.self.items c.in_ok-body.field-0 c.loop-f.invariant.1 c.in_ok-body.ensures c.in_ok-push.ensures.items,
)
