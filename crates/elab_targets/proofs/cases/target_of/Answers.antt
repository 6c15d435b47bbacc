use Rattle.std.proofs.Common.{ap, ◌∙◌}
use Rattle.std.specs.Option.{option_map}
use Rattle.program_meaning.specs.Items.{First, first_of, target}
use Rattle.elab_targets.specs.View.{application_of, element_of}
use Rattle.elab_targets.proofs.Reaching.{of_element}
use Rattle.elab_targets.proofs.cases.target_of.Goals as goal

pub returns : goal.returns
returns c = λ are.
    let app = application_of c.args.app.now in
    c.target.ensures
    ∙ ap (λ (f : First). option_map (target f) c.in_ok-body.body) c.first_of.ensures
    ∙ ap (option_map (target (first_of c.in-Some.element.now.parameter c.args.end.now.param))) (c.in_ok-body.ensures app are)
    ∙ of_element app c.args.item.now c.args.end.now (element_of c.in-Some.element.now) c.in-Some.ensures
