use Rattle.std.proofs.Common.{refl}
use Rattle.nesc_core.specs.View.{program_of}
use Rattle.nesc_core.proofs.PlaceLemmas.{ok_more}
use Rattle.race_report.proofs.FirstLemmas.{touched_one, touched_root, touches_none}
use Rattle.race_report.proofs.touched.touch_root.Goals as goal

pub returns-in-Object : goal.returns-in-Object
returns-in-Object c =
    touched_root (program_of c.args.p.now) c.args.f c.args.root _ c.args.touched.now _ c.in-Object.is
    (touched_one (program_of c.args.p.now) c.args.f c.in-Object.x c.args.touched.now _ c.touch.ensures refl)

pub returns-in-Local : goal.returns-in-Local
returns-in-Local c =
    touched_root (program_of c.args.p.now) c.args.f c.args.root _ c.args.touched.now _ c.in-Local.is (touches_none (program_of c.args.p.now) c.args.f c.args.touched.now)

pub returns-in-Pointed : goal.returns-in-Pointed
returns-in-Pointed c =
    ok_more _ _ (λ done h. touched_root (program_of c.args.p.now) c.args.f c.args.root _ c.args.touched.now _ c.in-Pointed.is h) c.touch_pointed.result c.touch_pointed.ensures
