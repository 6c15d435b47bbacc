use Rattle.std.proofs.Common.{◌∙◌, ap}
use Rattle.nesc_types.specs.Values.{value_of}
use Rattle.nesc_types.proofs.Found.{found}
use Rattle.nesc_types.proofs.values.Constants.get.Goals as goal

pub returns : goal.returns
returns c =
    c.copied.ensures ∙ (c.get.ensures.value ∙ (found c.as_bytes.result.now c.self.inside.values.entries ∙ (ap (value_of _) c.as_bytes.ensures ∙ ap (λ vs. value_of vs c.args.name.now) c.self.view_is)))
