use Rattle.std.proofs.Common.{List, map, ap, ◌∙◌}
use Rattle.program_meaning.specs.Items.{only_one}
use Rattle.elab_facts.specs.View.{target_of}
use Rattle.elab_targets.specs.View.{application_of}
use Rattle.elab_targets.proofs.cases.plain_target.Goals as goal

pub returns : goal.returns
returns c = λ instance x are.
    c.only_one.ensures (application_of c.args.app.now) instance x
    ∙ ap (λ (ts : List _). only_one (application_of c.args.app.now) instance x (map target_of ts)) c.as_slice.ensures.value
    ∙ ap (only_one (application_of c.args.app.now) instance x) (c.in_ok-targets.ensures are)
