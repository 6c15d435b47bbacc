use Rattle.std.proofs.Common.{◌∙◌, ap}
use Rattle.wire_names.specs.Places.{place_of}
use Rattle.wire_names.proofs.Placing.{found}
use Rattle.elab_targets.proofs.firsts.Firsts.get.Goals as goal

pub returns : goal.returns
returns c =
    c.copied.ensures ∙ (c.get.ensures.value ∙ (found c.as_bytes.result.now c.self.inside.places.entries ∙ (ap (place_of _) c.as_bytes.ensures ∙ ap (λ ps. place_of ps c.args.name.now) c.self.view_is)))
