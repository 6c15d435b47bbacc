use Rattle.std.proofs.Common.{List, length, ap, ◌∙◌}
use Rattle.elab_targets.proofs.Beginning.{dispatch_begins}
use Rattle.elab_targets.proofs.tables.Tables.first_dispatch.Goals as goal

pub returns : goal.returns
returns c = λ app are. c.number_at.ensures
    ∙ dispatch_begins app c.args.self.now are _ _ c.as_slice.ensures.value (ap (λ (ts : List _). length ts) c.as_slice-2.ensures.value)
