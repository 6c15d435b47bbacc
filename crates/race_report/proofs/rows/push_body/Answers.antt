use Rattle.std.proofs.Common.{◌≡◌, ◌∙◌, IfOk, [], ap, map, subst, sym}
use Rattle.std.specs.Prelude.{slice_index_or}
use Rattle.std.specs.List.{flat_map}
use Rattle.nesc_core.specs.View.{program_of}
use Rattle.call_graph.specs.Uses.{uses}
use Rattle.call_graph.specs.View.{use_of}
use Rattle.race_report.specs.Sites.{Gathers, body_rows, use_rows}
use Rattle.race_report.proofs.PathLemmas.{uses_are}
use Rattle.race_report.proofs.RowLemmas.{far_rows, gathers_as, gathers_none}
use Rattle.race_report.proofs.rows.push_body.Goals as goal

pub returns-then-is_out_of_reach : goal.returns-then-is_out_of_reach
returns-then-is_out_of_reach c =
    let p = program_of c.args.s.now.p.now in
    let order = c.args.s.now.handlers.order.items in
    gathers_as p order _ (body_rows p c.args.f) c.args.gathered.now c.args.gathered.now
    (λ x. far_rows p c.args.f x (sym (c.is_out_of_reach.ensures c.if-is_out_of_reach.true))) (gathers_none p order c.args.gathered.now)

pub returns : goal.returns
returns c =
    let p = program_of c.args.s.now.p.now in
    let same : map use_of c.uses_at.result.now ≡ uses p c.args.f =
    ap (map use_of) (c.uses_at.ensures ∙ ap (λ us. slice_index_or us c.args.f []) c.deref.ensures.value) ∙ uses_are p c.args.s.now.uses.items c.requires.known.uses c.args.f in
    subst (λ us. IfOk c.push_uses.result (λ done. Gathers p c.args.s.now.handlers.order.items (λ y. flat_map (λ u. use_rows p c.args.f u y) us) c.args.gathered.now c.push_uses.new.gathered)) same c.push_uses.ensures
