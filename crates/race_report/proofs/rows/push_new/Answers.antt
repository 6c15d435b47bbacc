use Rattle.std.proofs.Common.{◌∙◌, sym}
use Rattle.nesc_core.specs.View.{program_of}
use Rattle.race_report.proofs.KindRows.{gathers_new, unshared_rows}
use Rattle.race_report.proofs.rows.push_new.Goals as goal

pub returns : goal.returns
returns c =
    let s = c.args.s.now in
    gathers_new (program_of s.p.now) s.handlers.order.items c.args.site (unshared_rows (program_of s.p.now) c.requires.known.graph.no_cycle s.handlers c.requires.known.handlers c.args.site)
    (record { ty = c.args.t; objects = c.new.result }) c.deref.result.now c.args.gathered.now _ (c.deref.ensures.value ∙ c.in_ok-objects.ensures) (c.new.ensures ∙ sym c.deref.ensures.value)
    c.in_ok-push.ensures.items c.in_ok-push_all.ensures
