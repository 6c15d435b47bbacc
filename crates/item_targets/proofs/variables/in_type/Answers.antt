use Rattle.std.proofs.Common.{refl}
use Rattle.item_targets.proofs.Blocks.{quiet_alone}
use Rattle.item_targets.proofs.StmtForms.{type_parts}
use Rattle.item_targets.proofs.variables.in_type.Goals as goal

pub returns : goal.returns
returns g c =
    quiet_alone _ _ _ _ _ (type_parts g.R.Reaches.reach c.args.walk.now _ _) refl c.declare_type.ensures
