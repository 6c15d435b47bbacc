use Rattle.std.proofs.Common.{◌∙◌, ◌<◌, Bor, List, ℕ, ap, length, option_map, refl, subst, sym}
use Rattle.nesc_core.specs.View.{program_of, type_of}
use Rattle.nesc_core.proofs.PlaceLemmas.{ok_more}
use Rattle.race_checker.specs.declared.row.Row.{Row}
use Rattle.race_report.specs.Kinds.{objects_in}
use Rattle.race_report.proofs.KindRows.{gathers_known, unshared_rows}
use Rattle.race_report.proofs.RowLemmas.{gathers_full}
use Rattle.race_report.proofs.rows.push_pointed.Goals as goal

pub returns-then-is_full : goal.returns-then-is_full
returns-then-is_full c =
    gathers_full (program_of c.args.s.now.p.now) c.args.s.now.handlers.order.items _ c.args.gathered.now
    (subst (λ (rows : List Row). 10000 < length rows) c.deref.ensures.value (c.is_full.ensures c.if-is_full.true))

pub returns-in-Some : goal.returns-in-Some
returns-in-Some c =
    let s = c.args.s.now in
    ok_more _ _
    (λ done h. gathers_known (program_of s.p.now) s.handlers.order.items c.args.site (unshared_rows (program_of s.p.now) c.requires.known.graph.no_cycle s.handlers c.requires.known.handlers c.args.site)
    (type_of c.args.t.now) c.in-Some.objects.now c.args.gathered.now _
    (ap (λ kinds. objects_in kinds (type_of c.args.t.now)) (sym c.deref-2.ensures.value) ∙ sym c.known.ensures ∙ ap (option_map (λ (l : Bor (List ℕ)). l.now)) c.in-Some.is) refl h)
    c.push_all.result c.push_all.ensures
