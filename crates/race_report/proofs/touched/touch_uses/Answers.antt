use Rattle.nesc_core.specs.View.{program_of}
use Rattle.race_report.proofs.FirstLemmas.{uses_next, uses_end}
use Rattle.race_report.proofs.touched.touch_uses.Goals as goal

pub loop-u-preserved : goal.loop-u-preserved
loop-u-preserved c = λ new rest.
    c.loop-u.invariant new
    (uses_next (program_of c.args.p.now) c.args.f c.args.uses.now c.loop-u.u-index c.u-item.result c.loop-u.touched _ new c.loop-u-test.true c.u-item.is c.in_ok-touch_use.ensures rest)

pub returns : goal.returns
returns c = c.loop-u.invariant c.loop-u.touched (uses_end (program_of c.args.p.now) c.args.f c.args.uses.now c.loop-u.u-index c.loop-u.touched c.loop-u-test.false)
