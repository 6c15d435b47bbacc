use Rattle.std.proofs.Common.{refl}
use Rattle.item_targets.specs.Walk.{module_of}
use Rattle.item_targets.proofs.Blocks.{behind_quiet}
use Rattle.item_targets.proofs.StmtForms.{variable_parts}
use Rattle.item_targets.proofs.variables.in_variable.Goals as goal

pub returns : goal.returns
returns g c =
    behind_quiet _ _ _ _ _ _ _ (variable_parts g.R.Reaches.reach c.args.walk.now _ _ _) (c.in_ok-variable.ensures (module_of g.R.Reaches.reach c.args.walk.now)) refl c.in_maybe_init.ensures
