use Rattle.nesc_core.specs.View.{program_of}
use Rattle.nesc_core.proofs.PlaceLemmas.{ok_more}
use Rattle.race_report.proofs.FirstLemmas.{touched_access, touched_call}
use Rattle.race_report.proofs.touched.touch_use.Goals as goal

pub returns-in-Access : goal.returns-in-Access
returns-in-Access c =
    ok_more _ _
    (λ done h. touched_access (program_of c.args.p.now) c.args.f c.args.u.now _ _ c.in-Access.place _ c.root_of.result c.args.touched.now _ c.in-Access.is c.root_of.ensures h)
    c.touch_root.result c.touch_root.ensures

pub returns-in-Call : goal.returns-in-Call
returns-in-Call c = touched_call (program_of c.args.p.now) c.args.f c.args.u.now _ _ _ _ c.args.touched.now c.in-Call.is
