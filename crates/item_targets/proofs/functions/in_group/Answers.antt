use Rattle.item_targets.specs.Walk.{env_in, module_of}
use Rattle.item_targets.proofs.StmtForms.{declared_variables}
use Rattle.item_targets.proofs.Turns.{alike}
use Rattle.item_targets.proofs.functions.in_group.Goals as goal

pub returns : goal.returns
returns g c = alike _ _ _ _ _ (declared_variables g.R.Reaches.reach c.args.walk.now _ _ _ _ (c.first_at-at.ensures (env_in g.R.Reaches.reach c.args.walk.now) (module_of g.R.Reaches.reach c.args.walk.now))) c.in_variables.ensures
