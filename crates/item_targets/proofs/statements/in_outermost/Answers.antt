use Rattle.item_targets.proofs.StmtForms.{outermost_block, outermost_plain}
use Rattle.item_targets.proofs.Turns.{alike}
use Rattle.item_targets.proofs.statements.in_outermost.Goals as goal

pub returns-in-Some : goal.returns-in-Some
returns-in-Some g c =
    alike _ _ _ _ _ (outermost_block g.R.Reaches.reach c.args.walk.now _ _ c.in-Some.ensures) c.in_stmts.ensures

pub returns-in-None : goal.returns-in-None
returns-in-None g c =
    alike _ _ _ _ _ (outermost_plain g.R.Reaches.reach c.args.walk.now _ c.in-None.ensures) c.in_stmt.ensures
