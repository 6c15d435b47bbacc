use Rattle.std.proofs.Common.{refl}
use Rattle.item_targets.proofs.Bases.{typed_add}
use Rattle.item_targets.proofs.variables.in_typed.Goals as goal

pub returns : goal.returns
returns g c = typed_add g.R.Reaches.reach c.args.walk.now _ _ _ _ _ _ _ _ _ c.in_ok-b.ensures.value c.in_ok-b.ensures.state refl c.in_variables_by.ensures
