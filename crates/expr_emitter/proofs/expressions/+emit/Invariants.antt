use Rattle.std.proofs.Common.{◌≡◌, ◌+◌, ◌*◌, ◌<◌, ◌≤◌, ◌^◌, ◌++◌, drop}
use Rattle.nesc_core.specs.Nodes.{expr_nodes_of, exprs_nodes_of, place_nodes_of}
use Rattle.nesc_core.specs.View.{expr_of, exprs_of, place_of}
use Rattle.nesc_core.specs.Weights.{exprs_levels}
use Rattle.lower_expr.specs.Code.{all_labels}
use Rattle.expr_emitter.specs.Scoped.{args_in, locals_in, passed_in, program_in}
use Rattle.expr_emitter.specs.Sizes.{AllHaveSizes}
use Rattle.expr_emitter.proofs.expressions.+emit.Given as goal

-- what is written, with what is still to be written, is what all arguments give
abbrev pub invariant-emit_args-loop-arg : goal.invariant-emit_args-loop-arg
invariant-emit_args-loop-arg l = record {
  code : l.code.items ++ args_in l.scope (exprs_of (drop l.arg-index l.arg-items)) l.at l.next ≡ l.fn.code.items ++ args_in l.scope (exprs_of l.arg-items) l.r l.fn.next;
  next : l.next + all_labels (exprs_of (drop l.arg-index l.arg-items)) ≡ l.fn.next + all_labels (exprs_of l.arg-items);
  passed : l.passed.items ++ passed_in l.scope (exprs_of (drop l.arg-index l.arg-items)) l.at ≡ passed_in l.scope (exprs_of l.arg-items) l.r;
  sizes : AllHaveSizes (program_in l.scope) (locals_in l.scope) (exprs_of (drop l.arg-index l.arg-items));
  at : l.at ≡ l.r + 2 * l.arg-index;
  labels : l.next + all_labels (exprs_of (drop l.arg-index l.arg-items)) < 2 ^ 32;
  smaller : exprs_nodes_of (exprs_of (drop l.arg-index l.arg-items)) ≤ exprs_nodes_of (exprs_of l.arg-items);
  values : l.r + (2 * (1 + exprs_levels (exprs_of (drop l.arg-index l.arg-items)) l.arg-index) + 6) < 2 ^ 32;
}

-- a form calls with its parts alone
abbrev pub decreases-emit_expr : goal.decreases-emit_expr
decreases-emit_expr l = 3 * expr_nodes_of (expr_of l.e.now)

abbrev pub decreases-emit_place : goal.decreases-emit_place
decreases-emit_place l = 3 * place_nodes_of (place_of l.place.now)

abbrev pub decreases-emit_args : goal.decreases-emit_args
decreases-emit_args l = 3 * exprs_nodes_of (exprs_of l.args.now) + 1

abbrev pub decreases-emit_read : goal.decreases-emit_read
decreases-emit_read l = 3 * place_nodes_of (place_of l.place.now) + 1

abbrev pub decreases-emit_address : goal.decreases-emit_address
decreases-emit_address l = 3 * place_nodes_of (place_of l.place.now) + 1

abbrev pub decreases-emit_unary : goal.decreases-emit_unary
decreases-emit_unary l = 3 * expr_nodes_of (expr_of l.a.now) + 1

abbrev pub decreases-emit_convert : goal.decreases-emit_convert
decreases-emit_convert l = 3 * expr_nodes_of (expr_of l.a.now) + 1

abbrev pub decreases-emit_out : goal.decreases-emit_out
decreases-emit_out l = 3 * expr_nodes_of (expr_of l.a.now) + 1

abbrev pub decreases-emit_call : goal.decreases-emit_call
decreases-emit_call l = 3 * exprs_nodes_of (exprs_of l.args.now) + 2

abbrev pub decreases-emit_assign : goal.decreases-emit_assign
decreases-emit_assign l = 3 * (place_nodes_of (place_of l.place.now) + expr_nodes_of (expr_of l.a.now)) + 1

abbrev pub decreases-emit_update : goal.decreases-emit_update
decreases-emit_update l = 3 * (place_nodes_of (place_of l.place.now) + expr_nodes_of (expr_of l.a.now)) + 1

abbrev pub decreases-emit_choice : goal.decreases-emit_choice
decreases-emit_choice l = 3 * (expr_nodes_of (expr_of l.test.now) + expr_nodes_of (expr_of l.a.now) + expr_nodes_of (expr_of l.b.now)) + 1

abbrev pub decreases-emit_binary : goal.decreases-emit_binary
decreases-emit_binary l = 3 * (expr_nodes_of (expr_of l.a.now) + expr_nodes_of (expr_of l.b.now)) + 1

abbrev pub decreases-emit_both : goal.decreases-emit_both
decreases-emit_both l = 3 * (expr_nodes_of (expr_of l.a.now) + expr_nodes_of (expr_of l.b.now)) + 1

abbrev pub decreases-emit_either : goal.decreases-emit_either
decreases-emit_either l = 3 * (expr_nodes_of (expr_of l.a.now) + expr_nodes_of (expr_of l.b.now)) + 1

abbrev pub decreases-emit_offset : goal.decreases-emit_offset
decreases-emit_offset l = 3 * (expr_nodes_of (expr_of l.a.now) + expr_nodes_of (expr_of l.b.now)) + 1

abbrev pub decreases-emit_distance : goal.decreases-emit_distance
decreases-emit_distance l = 3 * (expr_nodes_of (expr_of l.a.now) + expr_nodes_of (expr_of l.b.now)) + 1

abbrev pub decreases-emit_comma : goal.decreases-emit_comma
decreases-emit_comma l = 3 * (expr_nodes_of (expr_of l.a.now) + expr_nodes_of (expr_of l.b.now)) + 1
