use Rattle.std.proofs.Common.{◌∙◌, ap, w64, rules, FitsSigned}
use Rattle.std.proofs.lemmas.Int.{to_z-of_z}
use Rattle.nm_base.specs.IntType.{wrapped}
use Rattle.core_act.proofs.Telling.{loads_int}
use Rattle.core_act.proofs.access.number.Goals as goal

pub returns : goal.returns
returns c =
    let fits : FitsSigned w64 c.wrap.result = search rules in
    let small : FitsSigned w64 c.from.result = search rules in
    loads_int c.args.t c.args.w _ _ _ _ _ _ c.in_ok-n.ensures
    (to_z-of_z w64 c.wrap.result fits ∙ c.wrap.ensures.value ∙ ap (wrapped c.args.t) (to_z-of_z w64 c.from.result small ∙ c.from.ensures))
