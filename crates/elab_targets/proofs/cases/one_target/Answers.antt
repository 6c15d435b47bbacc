use Rattle.std.proofs.Common.{List, Option, sym, ap, ◌∙◌}
use Rattle.nm_base.specs.declared.int_type.IntType.{IntType}
use Rattle.wire_targets.specs.declared.end.End.{End}
use Rattle.program_meaning.specs.Items as spec
use Rattle.elab_targets.specs.View.{application_of, element_of}
use Rattle.elab_targets.proofs.Behind.{if_ok}
use Rattle.elab_targets.proofs.cases.one_target.Goals as goal

pub returns-in-None : goal.returns-in-None
returns-in-None c = λ are.
    let app = application_of c.args.app.now in
    let x = element_of c.args.element.now in
    let k = c.args.instance in
    if_ok c.plain_target.result (λ t is. is
    ∙ ap (λ (es : List End). spec.only_one app k x (spec.targets_of app c.args.item.now es)) c.as_slice.ensures.value
    ∙ ap (λ (p : Option IntType). spec.one_target app k x p c.args.item.now) (sym c.in-None.is)) (c.plain_target.ensures k x are)
