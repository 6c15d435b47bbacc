use Rattle.std.proofs.Common.{arith}
use Rattle.mote_run.specs.RunText.{shown_behind}
use Rattle.mote_run.proofs.Counting.{next_counted, last_counted}
use Rattle.mote_run.proofs.totals.with_step.Goals as goal

pub loop-access-preserved : goal.loop-access-preserved
loop-access-preserved c = record {
  counts = next_counted c.args.totals c.loop-access.sum _ c.args.accesses.now c.loop-access.access-index _ _ c.loop-access-test.true c.loop-access.invariant.counts c.shown.ensures c.with_shown-sum.ensures.counts;
  few = omega (arith, c.with_shown-sum.ensures.few, c.loop-access.invariant.few);
}

pub returns-clause-counts : goal.returns-clause-counts
returns-clause-counts c =
    last_counted c.args.totals c.loop-access.sum _ c.args.accesses.now c.loop-access.access-index _ (shown_behind c.args.stepped) c.loop-access-test.false c.loop-access.invariant.counts c.shown_behind.ensures c.with_shown.ensures.counts
