use Rattle.nesc_core.specs.View.{program_of}
use Rattle.race_report.proofs.RowLemmas.{uses_next, uses_end}
use Rattle.race_report.proofs.rows.push_uses.Goals as goal

pub loop-u-preserved : goal.loop-u-preserved
loop-u-preserved c = λ new rest.
    c.loop-u.invariant new
    (uses_next (program_of c.args.s.now.p.now) c.args.s.now.handlers.order.items c.args.f c.args.uses.now c.loop-u.u-index c.u-item.result c.loop-u.gathered _ new c.loop-u-test.true
    c.u-item.is c.in_ok-push_use.ensures rest)

pub returns : goal.returns
returns c =
    c.loop-u.invariant c.loop-u.gathered
    (uses_end (program_of c.args.s.now.p.now) c.args.s.now.handlers.order.items c.args.f c.args.uses.now c.loop-u.u-index c.loop-u.gathered c.loop-u-test.false)
