use Rattle.call_graph.proofs.Reaching.{started, went_on, ended, falls, nothing_left}
use Rattle.call_graph.proofs.marks.reach.Goals as goal

pub loop-f-init : goal.loop-f-init
loop-f-init c = (
  0,
  started c.args.table.now c.args.roots.now _ _ _ _ c.in_ok-marks.ensures c.new-waiting.ensures.items c.in_ok-mark_all.ensures.marks c.in_ok-mark_all.ensures.waiting,
)

pub loop-f-smaller : goal.loop-f-smaller
loop-f-smaller c = falls c.loop-f.marks.items c.mark_all-in-Some.new.marks.items c.loop-f.waiting.items c.pop.new.self.items c.mark_all-in-Some.new.waiting.items c.row.result.now c.in-Some.f c.in-Some.ensures.items c.in_ok-mark_all-2.ensures.marks c.in_ok-mark_all-2.ensures.waiting

pub loop-f-preserved : goal.loop-f-preserved
loop-f-preserved c = (
  c.in-Some.f,
  went_on c.args.table.now c.args.roots.now _ _ _ _ _ _ c.in-Some.f c.loop-f.invariant.0 c.loop-f.invariant.1 c.in-Some.ensures.items c.row.ensures c.in_ok-mark_all-2.ensures.marks c.in_ok-mark_all-2.ensures.waiting,
)

pub returns : goal.returns
returns c = ended c.args.table.now c.args.roots.now _ _ c.loop-f.invariant.0 c.loop-f.invariant.1 (nothing_left c.loop-f.waiting.items c.pop.new.self.items c.loop-f.waiting.len c.in_default.ensures.items c.in_default.ensures.rest c.loop-f.waiting.ok.0)
