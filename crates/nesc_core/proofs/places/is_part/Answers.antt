use Rattle.std.proofs.Common.{◌∙◌, ap, map}
use Rattle.std.specs.List.{list_any}
use Rattle.nesc_core.specs.Parts.{parts, run_of, runs_of, run_has}
use Rattle.nesc_core.specs.Size.{layout_of}
use Rattle.nesc_core.specs.View.{type_of, program_of}
use Rattle.nesc_core.proofs.FieldLemmas.{runs_have}
use Rattle.nesc_core.proofs.places.is_part.Goals as goal

pub returns : goal.returns
returns c =
    let p = program_of c.args.p.now in let t = type_of c.args.t.now in
    c.any_has.ensures
    ∙ ap (λ rs. list_any (run_has c.from-size.result c.args.address) (map run_of rs)) c.deref.ensures.value
    ∙ ap (list_any (run_has c.from-size.result c.args.address)) c.in_ok-runs.ensures
    ∙ ap (λ size. list_any (run_has size c.args.address) (runs_of p t)) (c.from-size.ensures ∙ c.size.ensures)
    ∙ runs_have (layout_of p.structs t).size c.requires.some (parts p t) c.args.address
