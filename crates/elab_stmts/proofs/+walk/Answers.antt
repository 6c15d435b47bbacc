use Rattle.std.proofs.Common.{◌≡◌, ◌+◌, ◌<◌, ◌≤◌, List, length, map, drop, Ok, ap, sym, ◌∙◌, arith}
use Rattle.nesc_core.specs.View.{stmt_of as core_stmt_of, type_of}
use Rattle.elab_exprs.proofs.Faults.{passes, stops}
use Rattle.elab_meaning.specs.View.{env_of, state_of}
use Rattle.elab_pieces.specs.Flow.{labelled_of}
use Rattle.body_meaning.specs.View.{stmt_of, stmts}
use Rattle.elab_stmts.specs.Walk.{AreStmts, IsAdded, IsLabelled, IsStmt, branch_with_at, item_at, items_at, labelled_at, labelled_items_at, otherwise_at}
use Rattle.elab_stmts.proofs.Forms.{atomic_arm, block_arm, block_cases_arm, branch_arm, break_arm, case_arm, case_stops, continue_arm, default_arm, default_stops, do_arm, empty_arm, eval_arm, for_arm, local_arm, plain_body_arm, plain_item_arm, refused_by, return_arm, switch_arm, while_arm}
use Rattle.elab_stmts.proofs.Loops.{item_passed, item_failed, items_end, labelled_begins, labelled_passed, labelled_failed, labelled_ended}
use Rattle.elab_stmts.proofs.Sizes.{sizes_next}
use Rattle.elab_stmts.proofs.+walk.Goals as goal

-- ---- the forms of a statement

pub walk::stmt-returns-in-Block : goal.walk::stmt-returns-in-Block
walk::stmt-returns-in-Block t c = block_arm _ _ _ _ _ _ _ _ c.in-Block.is c.block.ensures

pub walk::stmt-returns-in-Empty : goal.walk::stmt-returns-in-Empty
walk::stmt-returns-in-Empty t c = empty_arm c.args.told.now (type_of c.args.due.now) c.args.work.now _ _ _ c.in-Empty.is c.empty.ensures

pub walk::stmt-returns-in-Case : goal.walk::stmt-returns-in-Case
walk::stmt-returns-in-Case t c = case_stops c.args.told.now (type_of c.args.due.now) c.args.work.now _ _ _ _ _ c.in-Case.is c.syntax.ensures

pub walk::stmt-returns-in-Default : goal.walk::stmt-returns-in-Default
walk::stmt-returns-in-Default t c = default_stops c.args.told.now (type_of c.args.due.now) c.args.work.now _ _ _ _ c.in-Default.is c.syntax-in-Default.ensures

pub walk::stmt-returns-in-Break : goal.walk::stmt-returns-in-Break
walk::stmt-returns-in-Break t c = break_arm c.args.told.now (type_of c.args.due.now) c.args.work.now _ _ c.in-Break.is

pub walk::stmt-returns-in-Continue : goal.walk::stmt-returns-in-Continue
walk::stmt-returns-in-Continue t c = continue_arm c.args.told.now (type_of c.args.due.now) c.args.work.now _ _ c.in-Continue.is

pub walk::stmt-returns-in-Eval : goal.walk::stmt-returns-in-Eval
walk::stmt-returns-in-Eval t c =
    eval_arm c.args.told.now (type_of c.args.due.now) c.args.work.now c.eval_of.new.work c.eval_of.result _ _ _ c.in-Eval.is c.eval_of.ensures

pub walk::stmt-returns-in-Atomic : goal.walk::stmt-returns-in-Atomic
walk::stmt-returns-in-Atomic t c = atomic_arm _ _ _ _ _ _ _ _ _ c.in-Atomic.is c.get.ensures c.atomic_of.ensures

pub walk::stmt-returns-in-If : goal.walk::stmt-returns-in-If
walk::stmt-returns-in-If t c = branch_arm _ _ _ _ _ _ _ _ _ _ _ c.in-If.is c.get-in-If.ensures c.branch_on.ensures

pub walk::stmt-returns-in-While : goal.walk::stmt-returns-in-While
walk::stmt-returns-in-While t c = while_arm _ _ _ _ _ _ _ _ _ _ c.in-While.is c.get-in-While.ensures c.while_loop.ensures

pub walk::stmt-returns-in-DoWhile : goal.walk::stmt-returns-in-DoWhile
walk::stmt-returns-in-DoWhile t c = do_arm _ _ _ _ _ _ _ _ _ _ c.in-DoWhile.is c.get-in-DoWhile.ensures c.do_loop.ensures

pub walk::stmt-returns-in-For : goal.walk::stmt-returns-in-For
walk::stmt-returns-in-For t c = for_arm _ _ _ _ _ _ _ _ _ _ _ _ c.in-For.is c.get-in-For.ensures c.for_loop.ensures

pub walk::stmt-returns-in-Switch : goal.walk::stmt-returns-in-Switch
walk::stmt-returns-in-Switch t c = switch_arm _ _ _ _ _ _ _ _ _ _ c.in-Switch.is c.get-in-Switch.ensures c.switch.ensures

pub walk::stmt-returns-in-Return : goal.walk::stmt-returns-in-Return
walk::stmt-returns-in-Return t c =
    return_arm c.args.told.now (type_of c.args.due.now) c.args.work.now c.returned.new.work c.returned.result _ _ _ c.in-Return.is c.returned.ensures

pub walk::stmt-returns-in-Local : goal.walk::stmt-returns-in-Local
walk::stmt-returns-in-Local t c =
    local_arm c.args.told.now (type_of c.args.due.now) c.args.work.now c.declared.new.work c.declared.result _ _ _ _ c.in-Local.is c.get-in-Local.ensures c.declared.ensures

-- ---- the parts of a switch

pub switches::cases-returns-in-Some : goal.switches::cases-returns-in-Some
switches::cases-returns-in-Some t c = block_cases_arm _ _ _ _ _ _ _ _ c.in-Some.ensures c.block_cases.ensures

pub switches::cases-returns-in-None : goal.switches::cases-returns-in-None
switches::cases-returns-in-None t c = plain_body_arm _ _ _ _ _ _ _ c.in-None.ensures c.plain_body.ensures

pub switches::labelled-returns-in-Case : goal.switches::labelled-returns-in-Case
switches::labelled-returns-in-Case t c = case_arm _ _ _ _ _ _ _ _ _ _ _ c.in-Case.ensures c.case_of.ensures

pub switches::labelled-returns-in-Default : goal.switches::labelled-returns-in-Default
switches::labelled-returns-in-Default t c = default_arm _ _ _ _ _ _ _ _ _ _ c.in-Default.ensures c.default_of.ensures

pub switches::labelled-returns-in-Nothing : goal.switches::labelled-returns-in-Nothing
switches::labelled-returns-in-Nothing t c = plain_item_arm _ _ _ _ _ _ _ _ _ c.in-Nothing.ensures c.plain_item.ensures

-- ---- lists

pub walk::items-returns : goal.walk::items-returns
unfolding AreStmts items_at
walk::items-returns t c =
    let h : length c.as_slice-x-items.result.now ≤ c.loop-x.x-index = omega (arith, c.loop-x-test.false) in
    items_end (env_of c.args.told.now.env) c.args.told.now.values (type_of c.args.due.now) c.as_slice-x-items.result.now c.loop-x.x-index (state_of c.loop-x.work) _ (map core_stmt_of c.loop-x.code.items) c.loop-x.invariant.rest h

pub walk::items-returns-in_err-more : goal.walk::items-returns-in_err-more
unfolding AreStmts item_at items_at
walk::items-returns-in_err-more t c =
    let h : c.loop-x.x-index < length c.as_slice-x-items.result.now = omega (arith, c.loop-x-test.true) in
    stops (λ v. map core_stmt_of v.items) c.from_residual.result c.in_err-more.field-0.0 _ _ c.from_residual.ensures
    (item_failed (env_of c.args.told.now.env) c.args.told.now.values (type_of c.args.due.now) c.as_slice-x-items.result.now c.loop-x.x-index c.x-item.result (state_of c.loop-x.work) _ (map core_stmt_of c.loop-x.code.items) c.in_err-more.field-0.0
    c.loop-x.invariant.rest h c.x-item.is c.in_err-more.ensures)

pub walk::items-loop-x-preserved : goal.walk::items-loop-x-preserved
unfolding AreStmts item_at
walk::items-loop-x-preserved t c =
    let h : c.loop-x.x-index < length c.as_slice-x-items.result.now = omega (arith, c.loop-x-test.true) in
    let n = sizes_next c.as_slice-x-items.result.now c.loop-x.x-index c.x-item.result h c.x-item.is in
    record {
      rest = item_passed (env_of c.args.told.now.env) c.args.told.now.values (type_of c.args.due.now) c.as_slice-x-items.result.now c.loop-x.x-index c.x-item.result (state_of c.loop-x.work) (state_of c.item.new.work) _ (map core_stmt_of c.loop-x.code.items) (map core_stmt_of c.in_ok-more.more.items) (map core_stmt_of c.add_stmts.new.code.items)
          c.loop-x.invariant.rest h c.x-item.is c.in_ok-more.ensures c.in_ok-add_stmts.ensures;
      smaller = omega (arith, n, c.loop-x.invariant.smaller);
    }

pub switches::labelled_items-returns : goal.switches::labelled_items-returns
unfolding IsLabelled labelled_items_at
switches::labelled_items-returns t c =
    let h : length c.as_slice-x-items.result.now ≤ c.loop-x.x-index = omega (arith, c.loop-x-test.false) in
    labelled_ended (env_of c.args.told.now.env) c.args.told.now.values (type_of c.args.due.now) c.args.t (labelled_of c.loop-x.out) c.as_slice-x-items.result.now c.loop-x.x-index (state_of c.loop-x.work) _ c.loop-x.invariant.rest h

pub switches::labelled_items-returns-in_err-labelled : goal.switches::labelled_items-returns-in_err-labelled
unfolding IsAdded IsLabelled labelled_at labelled_items_at
switches::labelled_items-returns-in_err-labelled t c =
    let h : c.loop-x.x-index < length c.as_slice-x-items.result.now = omega (arith, c.loop-x-test.true) in
    stops labelled_of c.from_residual.result c.in_err-labelled.field-0.0 _ _ c.from_residual.ensures
    (labelled_failed (env_of c.args.told.now.env) c.args.told.now.values (type_of c.args.due.now) c.args.t (labelled_of c.loop-x.out) c.as_slice-x-items.result.now c.loop-x.x-index c.x-item.result (state_of c.loop-x.work) _ c.in_err-labelled.field-0.0
    c.loop-x.invariant.rest h c.x-item.is c.in_err-labelled.ensures)

pub switches::labelled_items-loop-x-preserved : goal.switches::labelled_items-loop-x-preserved
unfolding IsAdded labelled_at
switches::labelled_items-loop-x-preserved t c =
    let h : c.loop-x.x-index < length c.as_slice-x-items.result.now = omega (arith, c.loop-x-test.true) in
    let n = sizes_next c.as_slice-x-items.result.now c.loop-x.x-index c.x-item.result h c.x-item.is in
    record {
      rest = labelled_passed (env_of c.args.told.now.env) c.args.told.now.values (type_of c.args.due.now) c.args.t (labelled_of c.loop-x.out) (labelled_of c.labelled.new.out) c.as_slice-x-items.result.now c.loop-x.x-index c.x-item.result (state_of c.loop-x.work) (state_of c.labelled.new.work) _
          c.loop-x.invariant.rest h c.x-item.is c.in_ok-labelled.ensures;
      smaller = omega (arith, n, c.loop-x.invariant.smaller);
    }

pub walk::branch_with-returns-in_err-test : goal.walk::branch_with-returns-in_err-test
unfolding IsStmt branch_with_at otherwise_at
walk::branch_with-returns-in_err-test t c =
    stops core_stmt_of c.from_residual.result c.in_err-test.field-0.0 _ _ c.from_residual.ensures
    (passes c.in_err-test.field-0.0 _ _ (refused_by core_stmt_of c.otherwise.result c.in_err-test.field-0.0 _ _ c.in_err-test.ensures.refused c.otherwise.ensures))
