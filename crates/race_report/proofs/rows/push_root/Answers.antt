use Rattle.nesc_core.specs.View.{program_of}
use Rattle.std.proofs.Common.{refl}
use Rattle.nesc_core.proofs.PlaceLemmas.{ok_more}
use Rattle.race_report.proofs.RowLemmas.{gathers_none, gathers_root, gathers_rows, grows_as, one_object, root_rows}
use Rattle.race_report.specs.declared.roots.Root.TheVariants as root_
use Rattle.race_report.proofs.rows.push_root.Goals as goal

pub returns-in-Object : goal.returns-in-Object
returns-in-Object c =
    let p = program_of c.args.s.now.p.now in
    let order = c.args.s.now.handlers.order.items in
    let x = c.in-Object.x in
    ok_more _ _
    (λ done h. gathers_root p order c.args.site c.args.root (root_.Object x) c.args.gathered.now _ c.in-Object.is
    (gathers_rows p order (root_rows p order c.args.site (root_.Object x)) c.args.gathered.now _ refl (grows_as _ _ _ _ (one_object p order c.args.site x) h)))
    c.push_row.result c.push_row.ensures

pub returns-in-Local : goal.returns-in-Local
returns-in-Local c =
    let p = program_of c.args.s.now.p.now in
    let order = c.args.s.now.handlers.order.items in
    gathers_root p order c.args.site c.args.root root_.Local c.args.gathered.now _ c.in-Local.is (gathers_none p order c.args.gathered.now)

pub returns-in-Pointed : goal.returns-in-Pointed
returns-in-Pointed c =
    let p = program_of c.args.s.now.p.now in
    let order = c.args.s.now.handlers.order.items in
    ok_more _ _ (λ done h. gathers_root p order c.args.site c.args.root (root_.Pointed c.in-Pointed.t) c.args.gathered.now _ c.in-Pointed.is h) c.push_pointed.result c.push_pointed.ensures
