-- Each form adds what its parts do, and a list what its elements do.
use Rattle.std.proofs.Common.{◌<◌, ◌≤◌, length, sym, ◌∙◌, refl, arith}
use Rattle.elab_stmts.proofs.Forms.{atomic_is, block_is, branch_is, break_is, continue_is, do_is, empty_is, eval_is, for_shape, local_is, return_is, switch_shape, while_is}
use Rattle.item_targets.proofs.Blocks.{inside}
use Rattle.item_targets.proofs.StmtForms.{atomic_form, block_form, branch_form, break_form, by_stmt, case_form, case_shape, continue_form, default_form, default_shape, do_form, empty_form, eval_form, for_form, local_form, return_form, stmts_end, stmts_next, switch_form, while_form}
use Rattle.item_targets.proofs.Turns.{alike, both, ended, four, next_turn, none, three}
use Rattle.item_targets.proofs.statements.+statements.Goals as goal

pub in_stmt-returns-in_ok-in_stmts-in-Block : goal.in_stmt-returns-in_ok-in_stmts-in-Block
in_stmt-returns-in_ok-in_stmts-in-Block g t c =
    inside _ _ _ _ _ _ _ _ _ (by_stmt g.R.Reaches.reach c.args.walk.now _ _ _ (block_is _ _ _ c.in-Block.is) (block_form g.R.Reaches.reach c.args.walk.now _ _)) refl c.enter-outer.ensures.entered c.in_ok-in_stmts-in-Block.ensures c.enter-outer.ensures.outer refl c.leave.ensures

pub in_stmt-returns-in-Empty : goal.in_stmt-returns-in-Empty
in_stmt-returns-in-Empty g t c =
    none _ _ _ (by_stmt g.R.Reaches.reach c.args.walk.now _ _ _ (empty_is _ _ c.in-Empty.is) (empty_form g.R.Reaches.reach c.args.walk.now _))

pub in_stmt-returns-in-Break : goal.in_stmt-returns-in-Break
in_stmt-returns-in-Break g t c =
    none _ _ _ (by_stmt g.R.Reaches.reach c.args.walk.now _ _ _ (break_is _ _ c.in-Break.is) (break_form g.R.Reaches.reach c.args.walk.now _))

pub in_stmt-returns-in-Continue : goal.in_stmt-returns-in-Continue
in_stmt-returns-in-Continue g t c =
    none _ _ _ (by_stmt g.R.Reaches.reach c.args.walk.now _ _ _ (continue_is _ _ c.in-Continue.is) (continue_form g.R.Reaches.reach c.args.walk.now _))

pub in_stmt-returns-in-Eval : goal.in_stmt-returns-in-Eval
in_stmt-returns-in-Eval g t c =
    alike _ _ _ _ _ (by_stmt g.R.Reaches.reach c.args.walk.now _ _ _ (eval_is _ _ _ c.in-Eval.is) (eval_form g.R.Reaches.reach c.args.walk.now _ _)) c.in_expr.ensures

pub in_stmt-returns-in-Atomic : goal.in_stmt-returns-in-Atomic
in_stmt-returns-in-Atomic g t c =
    alike _ _ _ _ _ (by_stmt g.R.Reaches.reach c.args.walk.now _ _ _ (atomic_is _ _ _ _ c.in-Atomic.is c.get.ensures) (atomic_form g.R.Reaches.reach c.args.walk.now _ _)) c.in_stmt.ensures

pub in_stmt-returns-in-Default : goal.in_stmt-returns-in-Default
in_stmt-returns-in-Default g t c =
    alike _ _ _ _ _ (by_stmt g.R.Reaches.reach c.args.walk.now _ _ _ (default_shape _ _ _ _ c.in-Default.is c.get-in-Default.ensures) (default_form g.R.Reaches.reach c.args.walk.now _ _)) c.in_stmt-in-Default.ensures

pub in_stmt-returns-in_ok-in_stmt-in-If : goal.in_stmt-returns-in_ok-in_stmt-in-If
in_stmt-returns-in_ok-in_stmt-in-If g t c =
    three _ _ _ _ _ _ _ _ _ _ _ (by_stmt g.R.Reaches.reach c.args.walk.now _ _ _ (branch_is _ _ _ _ _ _ c.in-If.is c.get-in-If.ensures) (branch_form g.R.Reaches.reach c.args.walk.now _ _ _ _))
    c.in_ok-in_expr-in-If.ensures c.in_ok-in_stmt-in-If.ensures c.in_else.ensures

pub in_stmt-returns-in_ok-in_expr-in-While : goal.in_stmt-returns-in_ok-in_expr-in-While
in_stmt-returns-in_ok-in_expr-in-While g t c =
    both _ _ _ _ _ _ _ _ (by_stmt g.R.Reaches.reach c.args.walk.now _ _ _ (while_is _ _ _ _ _ c.in-While.is c.get-in-While.ensures) (while_form g.R.Reaches.reach c.args.walk.now _ _ _))
    c.in_ok-in_expr-in-While.ensures c.in_stmt-in-While.ensures

pub in_stmt-returns-in_ok-in_expr-in-Switch : goal.in_stmt-returns-in_ok-in_expr-in-Switch
in_stmt-returns-in_ok-in_expr-in-Switch g t c =
    both _ _ _ _ _ _ _ _ (by_stmt g.R.Reaches.reach c.args.walk.now _ _ _ (switch_shape _ _ _ _ _ c.in-Switch.is c.get-in-Switch.ensures) (switch_form g.R.Reaches.reach c.args.walk.now _ _ _))
    c.in_ok-in_expr-in-Switch.ensures c.in_stmt-in-Switch.ensures

pub in_stmt-returns-in_ok-in_expr-in-Case : goal.in_stmt-returns-in_ok-in_expr-in-Case
in_stmt-returns-in_ok-in_expr-in-Case g t c =
    both _ _ _ _ _ _ _ _ (by_stmt g.R.Reaches.reach c.args.walk.now _ _ _ (case_shape _ _ _ _ _ c.in-Case.is c.get-in-Case.ensures) (case_form g.R.Reaches.reach c.args.walk.now _ _ _))
    c.in_ok-in_expr-in-Case.ensures c.in_stmt-in-Case.ensures

pub in_stmt-returns-in_ok-in_stmt-in-DoWhile : goal.in_stmt-returns-in_ok-in_stmt-in-DoWhile
in_stmt-returns-in_ok-in_stmt-in-DoWhile g t c =
    both _ _ _ _ _ _ _ _ (by_stmt g.R.Reaches.reach c.args.walk.now _ _ _ (do_is _ _ _ _ _ c.in-DoWhile.is c.get-in-DoWhile.ensures) (do_form g.R.Reaches.reach c.args.walk.now _ _ _))
    c.in_ok-in_stmt-in-DoWhile.ensures c.in_expr-in-DoWhile.ensures

pub in_stmt-returns-in_ok-in_stmt-in-For : goal.in_stmt-returns-in_ok-in_stmt-in-For
in_stmt-returns-in_ok-in_stmt-in-For g t c =
    inside _ _ _ _ _ _ _ _ _ (by_stmt g.R.Reaches.reach c.args.walk.now _ _ _ (for_shape _ _ _ _ _ _ _ c.in-For.is c.get-in-For.ensures) (for_form g.R.Reaches.reach c.args.walk.now _ _ _ _ _)) refl c.enter-outer-in-For.ensures.entered
    (four _ _ _ _ _ _ _ _ _ _ _ _ _ _ (λ st. refl) c.in_ok-in_start-in-For.ensures c.in_ok-in_value-in-For.ensures c.in_ok-in_value-in-For-2.ensures c.in_ok-in_stmt-in-For.ensures)
    c.enter-outer-in-For.ensures.outer refl c.leave-in-For.ensures

pub in_stmt-returns-in-Return : goal.in_stmt-returns-in-Return
in_stmt-returns-in-Return g t c =
    alike _ _ _ _ _ (by_stmt g.R.Reaches.reach c.args.walk.now _ _ _ (return_is _ _ _ c.in-Return.is) (return_form g.R.Reaches.reach c.args.walk.now _ _)) c.in_value-in-Return.ensures

pub in_stmt-returns-in-Local : goal.in_stmt-returns-in-Local
in_stmt-returns-in-Local g t c =
    alike _ _ _ _ _ (by_stmt g.R.Reaches.reach c.args.walk.now _ _ _ (local_is _ _ _ _ c.in-Local.is c.get-in-Local.ensures) (local_form g.R.Reaches.reach c.args.walk.now _ _)) c.in_local.ensures

pub in_stmts-returns : goal.in_stmts-returns
in_stmts-returns g t c =
    let h : length c.as_slice-x-items.result.now ≤ c.loop-x.x-index = omega (arith, c.loop-x-test.false) in
    ended _ _ _ _ _ c.loop-x.invariant (stmts_end g.R.Reaches.reach c.args.walk.now c.as_slice-x-items.result.now c.loop-x.x-index h)

pub in_stmts-loop-x-preserved : goal.in_stmts-loop-x-preserved
in_stmts-loop-x-preserved g t c =
    let h : c.loop-x.x-index < length c.as_slice-x-items.result.now = omega (arith, c.loop-x-test.true) in
    sym (next_turn _ _ _ _ _ _ (stmts_next g.R.Reaches.reach c.args.walk.now c.as_slice-x-items.result.now c.loop-x.x-index c.x-item.result h c.x-item.is) c.in_ok-in_stmt.ensures)
    ∙ c.loop-x.invariant
