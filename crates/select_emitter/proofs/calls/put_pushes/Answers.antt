-- One value is pushed, or passed over.
use Rattle.msp_select.specs.Frames.{frame_home, own_bytes}
use Rattle.select_emitter.proofs.Pushing.{below_left, few_left, pushed_more}
use Rattle.select_emitter.proofs.calls.put_pushes.Goals as goal

pub loop-flag-preserved : goal.loop-flag-preserved
loop-flag-preserved c = record {
  items = pushed_more c.args.scope.now.code.now (frame_home c.args.scope.now.function.now) (own_bytes c.args.scope.now.function.now) _ _ _ _ _ _ _ _ _ _ _ c.in-Some.ensures.cases.0 c.in-Some-split_first.ensures.cases.0 c.in_ok-put_flagged.ensures.items c.in_ok-put_flagged.ensures.deeper c.loop-flag.invariant.items;
  few = few_left _ _ _ _ _ _ _ _ c.in-Some.ensures.cases.0 c.in-Some-split_first.ensures.cases.0 c.in_ok-put_flagged.ensures.deeper c.loop-flag.invariant.few;
  below = below_left _ _ _ _ c.in-Some-split_first.ensures.cases.0 c.loop-flag.invariant.below;
}
