use Rattle.std.proofs.Common.{refl}
use Rattle.item_targets.proofs.Blocks.{inside}
use Rattle.item_targets.proofs.StmtForms.{body_found}
use Rattle.item_targets.proofs.functions.in_body.Goals as goal

pub returns-in_ok-within-in-Some : goal.returns-in_ok-within-in-Some
returns-in_ok-within-in-Some g c =
    inside _ _ _ _ _ _ _ _ _ (body_found g.R.Reaches.reach c.args.walk.now _ _ _ c.in-Some.is) refl c.enter-outer.ensures.entered c.in_ok-within-in-Some.ensures c.enter-outer.ensures.outer refl c.leave.ensures
