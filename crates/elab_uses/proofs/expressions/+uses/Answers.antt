use Rattle.std.proofs.Common.{rules}
use Rattle.nesc_tree.specs.View.{expr_of}
use Rattle.elab_uses.specs.Lists.{maybe_of}
use Rattle.program_meaning.specs.Uses as spec
use Rattle.elab_uses.proofs.Forms.{behind, binary_in, assign_in, comma_in, index_in, port_write_in, call_item_in}
use Rattle.elab_uses.proofs.expressions.+uses.Goals as goal

pub in_expr-returns-in_ok-in_expr-in-Binary : goal.in_expr-returns-in_ok-in_expr-in-Binary
in_expr-returns-in_ok-in_expr-in-Binary t c = behind _ _ _ _ (spec.in_expr (expr_of c.get.result.now)) _ _ (search rules)
    (binary_in _ _ _ _ _ _ _ c.in-Binary.is c.get.ensures c.get-in-Binary.ensures) c.in_expr-in-Binary.ensures

pub in_expr-returns-in_ok-in_expr-in-Assign : goal.in_expr-returns-in_ok-in_expr-in-Assign
in_expr-returns-in_ok-in_expr-in-Assign t c = behind _ _ _ _ (spec.in_expr (expr_of c.get-in-Assign.result.now)) _ _ (search rules)
    (assign_in _ _ _ _ _ _ _ c.in-Assign.is c.get-in-Assign.ensures c.get-in-Assign-2.ensures) c.in_expr-in-Assign-2.ensures

pub in_expr-returns-in_ok-in_expr-in-Comma : goal.in_expr-returns-in_ok-in_expr-in-Comma
in_expr-returns-in_ok-in_expr-in-Comma t c = behind _ _ _ _ (spec.in_expr (expr_of c.get-in-Comma.result.now)) _ _ (search rules)
    (comma_in _ _ _ _ _ _ c.in-Comma.is c.get-in-Comma.ensures c.get-in-Comma-2.ensures) c.in_expr-in-Comma-2.ensures

pub in_expr-returns-in_ok-in_expr-in-Index : goal.in_expr-returns-in_ok-in_expr-in-Index
in_expr-returns-in_ok-in_expr-in-Index t c = behind _ _ _ _ (spec.in_expr (expr_of c.get-in-Index.result.now)) _ _ (search rules)
    (index_in _ _ _ _ _ _ c.in-Index.is c.get-in-Index.ensures c.get-in-Index-2.ensures) c.in_expr-in-Index-2.ensures

pub in_expr-returns-in_ok-in_expr-in-PortWrite : goal.in_expr-returns-in_ok-in_expr-in-PortWrite
in_expr-returns-in_ok-in_expr-in-PortWrite t c = behind _ _ _ _ (spec.in_expr (expr_of c.get-in-PortWrite.result.now)) _ _ (search rules)
    (port_write_in _ _ _ _ _ _ c.in-PortWrite.is c.get-in-PortWrite.ensures c.get-in-PortWrite-2.ensures) c.in_expr-in-PortWrite-2.ensures

pub in_expr-returns-in_ok-in_parameter-in-CallItem : goal.in_expr-returns-in_ok-in_parameter-in-CallItem
in_expr-returns-in_ok-in_parameter-in-CallItem t c = behind _ _ _ _ (spec.in_maybe (maybe_of c.in-CallItem.param)) _ _ (search rules)
    (call_item_in _ _ _ _ _ _ _ c.in-CallItem.is) c.in_list-in-CallItem.ensures
