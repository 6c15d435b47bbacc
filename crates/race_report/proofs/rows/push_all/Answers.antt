use Rattle.nesc_core.specs.View.{program_of}
use Rattle.race_report.proofs.RowLemmas.{objects_next, objects_end}
use Rattle.race_report.proofs.rows.push_all.Goals as goal

pub loop-x-preserved : goal.loop-x-preserved
loop-x-preserved c = λ new rest.
    c.loop-x.invariant new
    (objects_next (program_of c.args.s.now.p.now) c.args.site c.args.objects.now c.loop-x.x-index _ c.loop-x.rows.items _ new c.loop-x-test.true c.in_ok-push_row.ensures rest)

pub returns : goal.returns
returns c =
    c.loop-x.invariant c.loop-x.rows.items
    (objects_end (program_of c.args.s.now.p.now) c.args.site c.args.objects.now c.loop-x.x-index c.loop-x.rows.items c.loop-x-test.false)
