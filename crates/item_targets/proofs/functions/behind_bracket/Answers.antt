use Rattle.std.proofs.Common.{refl}
use Rattle.item_targets.proofs.Blocks.{behind_quiet}
use Rattle.item_targets.proofs.StmtForms.{behind_bracket_parts}
use Rattle.item_targets.proofs.functions.behind_bracket.Goals as goal

pub returns : goal.returns
returns g c = behind_quiet _ _ _ _ _ _ _ (behind_bracket_parts g.R.Reaches.reach c.args.walk.now _ _) c.in_ok-params_in_force.ensures refl c.in_outermost.ensures
