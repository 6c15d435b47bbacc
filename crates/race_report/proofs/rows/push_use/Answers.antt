use Rattle.nesc_core.specs.View.{program_of}
use Rattle.nesc_core.proofs.PlaceLemmas.{ok_more}
use Rattle.race_report.proofs.RowLemmas.{gathers_access, gathers_call, gathers_inside}
use Rattle.race_report.proofs.rows.push_use.Goals as goal

pub returns-in-Call : goal.returns-in-Call
returns-in-Call c = gathers_call (program_of c.args.s.now.p.now) c.args.s.now.handlers.order.items c.args.f c.args.u.now _ _ _ _ c.args.gathered.now c.in-Call.is

pub returns-then-is_inside : goal.returns-then-is_inside
returns-then-is_inside c =
    gathers_inside (program_of c.args.s.now.p.now) c.args.s.now.handlers.order.items c.args.f c.args.u.now c.in-Access.node c.in-Access.is_inside c.in-Access.place c.in-Access.pos
    c.args.gathered.now c.in-Access.is c.if-is_inside.true

pub returns-else-is_inside : goal.returns-else-is_inside
returns-else-is_inside c =
    ok_more _ _
    (λ done h. gathers_access (program_of c.args.s.now.p.now) c.args.s.now.handlers.order.items c.args.f c.args.u.now c.in-Access.node c.in-Access.is_inside c.in-Access.place c.in-Access.pos
    c.root_of.result c.args.gathered.now _ c.in-Access.is c.if-is_inside.false c.root_of.ensures h)
    c.push_root.result c.push_root.ensures
