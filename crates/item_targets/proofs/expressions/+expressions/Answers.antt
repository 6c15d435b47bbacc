-- Each form adds what its parts do, and a list what its elements do.
use Rattle.std.proofs.Common.{◌<◌, ◌≤◌, length, sym, ◌∙◌, arith}
use Rattle.item_targets.proofs.Forms.{arrow_part, assign_parts, binary_parts, call_parts, cast_part, char_leaf, choice_parts, comma_parts, count_leaf, exprs_end, exprs_next, index_parts, item_parts, member_part, name_leaf, null_leaf, number_leaf, post_leaf, postfix_part, read_part, size_leaf, size_part, unary_part, unique_leaf, write_parts}
use Rattle.item_targets.proofs.Turns.{alike, both, ended, next_turn, none, three}
use Rattle.item_targets.proofs.expressions.+expressions.Goals as goal

pub in_expr-returns-in-Unary : goal.in_expr-returns-in-Unary
in_expr-returns-in-Unary g t c =
    alike _ _ _ _ _ (unary_part g.R.Reaches.reach c.args.walk.now _ _ _ _ _ c.in-Unary.is c.get.ensures) c.in_expr.ensures

pub in_expr-returns-in-Postfix : goal.in_expr-returns-in-Postfix
in_expr-returns-in-Postfix g t c =
    alike _ _ _ _ _ (postfix_part g.R.Reaches.reach c.args.walk.now _ _ _ _ _ c.in-Postfix.is c.get-in-Postfix.ensures) c.in_expr-in-Postfix.ensures

pub in_expr-returns-in-Cast : goal.in_expr-returns-in-Cast
in_expr-returns-in-Cast g t c =
    alike _ _ _ _ _ (cast_part g.R.Reaches.reach c.args.walk.now _ _ _ _ _ c.in-Cast.is c.get-in-Cast.ensures) c.in_expr-in-Cast.ensures

pub in_expr-returns-in-SizeOfExpr : goal.in_expr-returns-in-SizeOfExpr
in_expr-returns-in-SizeOfExpr g t c =
    alike _ _ _ _ _ (size_part g.R.Reaches.reach c.args.walk.now _ _ _ _ c.in-SizeOfExpr.is c.get-in-SizeOfExpr.ensures) c.in_expr-in-SizeOfExpr.ensures

pub in_expr-returns-in-Member : goal.in_expr-returns-in-Member
in_expr-returns-in-Member g t c =
    alike _ _ _ _ _ (member_part g.R.Reaches.reach c.args.walk.now _ _ _ _ _ c.in-Member.is c.get-in-Member.ensures) c.in_expr-in-Member.ensures

pub in_expr-returns-in-Arrow : goal.in_expr-returns-in-Arrow
in_expr-returns-in-Arrow g t c =
    alike _ _ _ _ _ (arrow_part g.R.Reaches.reach c.args.walk.now _ _ _ _ _ c.in-Arrow.is c.get-in-Arrow.ensures) c.in_expr-in-Arrow.ensures

pub in_expr-returns-in-PortRead : goal.in_expr-returns-in-PortRead
in_expr-returns-in-PortRead g t c =
    alike _ _ _ _ _ (read_part g.R.Reaches.reach c.args.walk.now _ _ _ _ c.in-PortRead.is c.get-in-PortRead.ensures) c.in_expr-in-PortRead.ensures

pub in_expr-returns-in_ok-in_expr-in-Binary : goal.in_expr-returns-in_ok-in_expr-in-Binary
in_expr-returns-in_ok-in_expr-in-Binary g t c =
    both _ _ _ _ _ _ _ _ (binary_parts g.R.Reaches.reach c.args.walk.now _ _ _ _ _ _ _ c.in-Binary.is c.get-in-Binary.ensures c.get-in-Binary-2.ensures)
    c.in_ok-in_expr-in-Binary.ensures c.in_expr-in-Binary-2.ensures

pub in_expr-returns-in_ok-in_expr-in-Assign : goal.in_expr-returns-in_ok-in_expr-in-Assign
in_expr-returns-in_ok-in_expr-in-Assign g t c =
    both _ _ _ _ _ _ _ _ (assign_parts g.R.Reaches.reach c.args.walk.now _ _ _ _ _ _ _ c.in-Assign.is c.get-in-Assign.ensures c.get-in-Assign-2.ensures)
    c.in_ok-in_expr-in-Assign.ensures c.in_expr-in-Assign-2.ensures

pub in_expr-returns-in_ok-in_expr-in-Comma : goal.in_expr-returns-in_ok-in_expr-in-Comma
in_expr-returns-in_ok-in_expr-in-Comma g t c =
    both _ _ _ _ _ _ _ _ (comma_parts g.R.Reaches.reach c.args.walk.now _ _ _ _ _ _ c.in-Comma.is c.get-in-Comma.ensures c.get-in-Comma-2.ensures)
    c.in_ok-in_expr-in-Comma.ensures c.in_expr-in-Comma-2.ensures

pub in_expr-returns-in_ok-in_expr-in-Index : goal.in_expr-returns-in_ok-in_expr-in-Index
in_expr-returns-in_ok-in_expr-in-Index g t c =
    both _ _ _ _ _ _ _ _ (index_parts g.R.Reaches.reach c.args.walk.now _ _ _ _ _ _ c.in-Index.is c.get-in-Index.ensures c.get-in-Index-2.ensures)
    c.in_ok-in_expr-in-Index.ensures c.in_expr-in-Index-2.ensures

pub in_expr-returns-in_ok-in_expr-in-PortWrite : goal.in_expr-returns-in_ok-in_expr-in-PortWrite
in_expr-returns-in_ok-in_expr-in-PortWrite g t c =
    both _ _ _ _ _ _ _ _ (write_parts g.R.Reaches.reach c.args.walk.now _ _ _ _ _ _ c.in-PortWrite.is c.get-in-PortWrite.ensures c.get-in-PortWrite-2.ensures)
    c.in_ok-in_expr-in-PortWrite.ensures c.in_expr-in-PortWrite-2.ensures

pub in_expr-returns-in_ok-in_expr-in-Cond-2 : goal.in_expr-returns-in_ok-in_expr-in-Cond-2
in_expr-returns-in_ok-in_expr-in-Cond-2 g t c =
    three _ _ _ _ _ _ _ _ _ _ _ (choice_parts g.R.Reaches.reach c.args.walk.now _ _ _ _ _ _ _ _ c.in-Cond.is c.get-in-Cond.ensures c.get-in-Cond-2.ensures c.get-in-Cond-3.ensures)
    c.in_ok-in_expr-in-Cond.ensures c.in_ok-in_expr-in-Cond-2.ensures c.in_expr-in-Cond-3.ensures

pub in_expr-returns-in_ok-in_expr-in-CallFn : goal.in_expr-returns-in_ok-in_expr-in-CallFn
in_expr-returns-in_ok-in_expr-in-CallFn g t c =
    both _ _ _ _ _ _ _ _ (call_parts g.R.Reaches.reach c.args.walk.now _ _ _ _ _ c.in-CallFn.is c.get-in-CallFn.ensures)
    c.in_ok-in_expr-in-CallFn.ensures c.in_list.ensures

pub in_expr-returns-in_ok-in_bracket-in-CallItem : goal.in_expr-returns-in_ok-in_bracket-in-CallItem
in_expr-returns-in_ok-in_bracket-in-CallItem g t c =
    three _ _ _ _ _ _ _ _ _ _ _ (item_parts g.R.Reaches.reach c.args.walk.now _ _ _ _ _ _ _ c.in-CallItem.is)
    c.in_ok-add_call-in-CallItem.ensures c.in_ok-in_bracket-in-CallItem.ensures c.in_list-in-CallItem.ensures

pub in_list-returns : goal.in_list-returns
in_list-returns g t c =
    let h : length c.as_slice-e-items.result.now ≤ c.loop-e.e-index = omega (arith, c.loop-e-test.false) in
    ended _ _ _ _ _ c.loop-e.invariant (exprs_end g.R.Reaches.reach c.args.walk.now c.as_slice-e-items.result.now c.loop-e.e-index h)

pub in_list-loop-e-preserved : goal.in_list-loop-e-preserved
in_list-loop-e-preserved g t c =
    let h : c.loop-e.e-index < length c.as_slice-e-items.result.now = omega (arith, c.loop-e-test.true) in
    sym (next_turn _ _ _ _ _ _ (exprs_next g.R.Reaches.reach c.args.walk.now c.as_slice-e-items.result.now c.loop-e.e-index c.e-item.result h c.e-item.is) c.in_ok-in_expr.ensures)
    ∙ c.loop-e.invariant

pub in_expr-returns-in-Name : goal.in_expr-returns-in-Name
in_expr-returns-in-Name g t c = none _ _ _ (name_leaf g.R.Reaches.reach c.args.walk.now _ _ _ c.in-Name.is)

pub in_expr-returns-in-Number : goal.in_expr-returns-in-Number
in_expr-returns-in-Number g t c = none _ _ _ (number_leaf g.R.Reaches.reach c.args.walk.now _ _ _ c.in-Number.is)

pub in_expr-returns-in-Char : goal.in_expr-returns-in-Char
in_expr-returns-in-Char g t c = none _ _ _ (char_leaf g.R.Reaches.reach c.args.walk.now _ _ _ c.in-Char.is)

pub in_expr-returns-in-Null : goal.in_expr-returns-in-Null
in_expr-returns-in-Null g t c = none _ _ _ (null_leaf g.R.Reaches.reach c.args.walk.now _ _ c.in-Null.is)

pub in_expr-returns-in-Unique : goal.in_expr-returns-in-Unique
in_expr-returns-in-Unique g t c = none _ _ _ (unique_leaf g.R.Reaches.reach c.args.walk.now _ _ _ c.in-Unique.is)

pub in_expr-returns-in-UniqueCount : goal.in_expr-returns-in-UniqueCount
in_expr-returns-in-UniqueCount g t c = none _ _ _ (count_leaf g.R.Reaches.reach c.args.walk.now _ _ _ c.in-UniqueCount.is)

pub in_expr-returns-in-SizeOfType : goal.in_expr-returns-in-SizeOfType
in_expr-returns-in-SizeOfType g t c = none _ _ _ (size_leaf g.R.Reaches.reach c.args.walk.now _ _ _ c.in-SizeOfType.is)

pub in_expr-returns-in-Post : goal.in_expr-returns-in-Post
in_expr-returns-in-Post g t c = none _ _ _ (post_leaf g.R.Reaches.reach c.args.walk.now _ _ _ c.in-Post.is)
