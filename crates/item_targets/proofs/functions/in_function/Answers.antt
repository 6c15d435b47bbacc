use Rattle.std.proofs.Common.{refl}
use Rattle.item_targets.specs.Walk.{env_in, module_of}
use Rattle.item_targets.proofs.Blocks.{behind_quiet}
use Rattle.item_targets.proofs.StmtForms.{function_parts}
use Rattle.item_targets.proofs.functions.in_function.Goals as goal

pub returns : goal.returns
returns g c =
    behind_quiet _ _ _ _ _ _ _ (function_parts g.R.Reaches.reach c.args.walk.now _ _) (c.in_ok-own_name.ensures (env_in g.R.Reaches.reach c.args.walk.now) (module_of g.R.Reaches.reach c.args.walk.now)) refl c.in_body.ensures
