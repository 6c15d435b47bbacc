use Rattle.std.proofs.Common.{arith, ◌∙◌}
use Rattle.select_emitter.proofs.Framing.{pushed_one}
use Rattle.select_emitter.proofs.frames.make_pushes.Goals as goal

pub loop-at-preserved : goal.loop-at-preserved
loop-at-preserved c = record {
  within = omega (arith, c.loop-at.invariant.within);
  long = c.push.ensures.long ∙ c.loop-at.invariant.long;
  pushed = pushed_one c.args.values c.args.params.now c.loop-at.at _ _ _ _ _ _ (omega (arith, c.loop-at-test.true)) c.loop-at.invariant.within c.requires.params c.loop-at.invariant.pushed c.push.ensures.pushed;
}
