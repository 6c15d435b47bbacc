use Rattle.std.proofs.Common.{refl}
use Rattle.item_targets.specs.Walk.{module_of}
use Rattle.item_targets.proofs.Blocks.{behind_quiet}
use Rattle.item_targets.proofs.StmtForms.{within_parts}
use Rattle.item_targets.proofs.functions.within.Goals as goal

pub returns : goal.returns
returns g c = behind_quiet _ _ _ _ _ _ _ (within_parts g.R.Reaches.reach c.args.walk.now _ _) (c.in_ok-bracket.ensures (module_of g.R.Reaches.reach c.args.walk.now)) refl c.behind_bracket.ensures
