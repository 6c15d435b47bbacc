use Rattle.std.proofs.Common.{◌≡◌, ◌∙◌, IfOk, ap, map, subst}
use Rattle.std.specs.List.{list_any}
use Rattle.nesc_core.specs.View.{program_of}
use Rattle.call_graph.specs.Uses.{uses}
use Rattle.call_graph.specs.View.{use_of}
use Rattle.race_checker.specs.Computed.{is_touching, touches_in}
use Rattle.race_report.specs.Firsts.{Touches}
use Rattle.race_report.proofs.FirstLemmas.{touches_as, touches_none}
use Rattle.race_report.proofs.PathLemmas.{untouched, uses_are}
use Rattle.race_report.proofs.touched.touch_body.Goals as goal

pub returns-then-is_past : goal.returns-then-is_past
returns-then-is_past c =
    let p = program_of c.args.p.now in
    touches_as p c.args.f _ (λ x. touches_in p x c.args.f) c.args.touched.now c.args.touched.now
    (λ x. untouched p x c.args.f c.args.uses.now c.requires.uses (c.is_past.ensures.past c.if-is_past.true)) (touches_none p c.args.f c.args.touched.now)

pub returns : goal.returns
returns c =
    let p = program_of c.args.p.now in
    let same : map use_of c.uses_at.result.now ≡ uses p c.args.f = ap (map use_of) c.uses_at.ensures ∙ uses_are p c.args.uses.now c.requires.uses c.args.f in
    subst (λ us. IfOk c.touch_uses.result (λ done. Touches p c.args.f (λ x. list_any (is_touching p x) us) c.args.touched.now c.touch_uses.new.touched)) same c.touch_uses.ensures
