use Rattle.std.proofs.Common.{ap, ◌∙◌}
use Rattle.nesc_core.specs.declared.layout.Layout.{Layout}
use Rattle.nesc_core.specs.View.{type_of}
use Rattle.elab_weights.proofs.First.{layout_first}
use Rattle.elab_weights.proofs.layouts.size_among.Goals as goal

pub returns-clause-size : goal.returns-clause-size
returns-clause-size c structs first =
    ap (λ (l : Layout). l.size) (c.in_ok-found.ensures.layout ∙ layout_first structs c.args.layouts.now (type_of c.args.t.now) first c.in_ok-found.ensures.names)
