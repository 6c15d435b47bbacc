use Rattle.std.proofs.Common.{◌≡◌, ◌+◌, ◌*◌, ◌≤◌, drop, map}
use Rattle.nesc_core.specs.Derefs.{exprs_derefs}
use Rattle.nesc_core.specs.Nodes.{expr_nodes_of, exprs_nodes_of, place_nodes_of}
use Rattle.nesc_core.specs.View.{expr_of, exprs_of, place_of, type_of}
use Rattle.lower_stmt.specs.Bodies.{in_order}
use Rattle.stmt_emitter.proofs.checks.+derefs.Given as goal

abbrev pub invariant-add_args-loop-arg : goal.invariant-add_args-loop-arg
invariant-add_args-loop-arg l = record {
  seen : in_order (map type_of l.seen.items) (exprs_derefs (exprs_of (drop l.arg-index l.arg-items))) ≡ in_order (map type_of l.fn.seen.items) (exprs_derefs (exprs_of l.arg-items));
  smaller : exprs_nodes_of (exprs_of (drop l.arg-index l.arg-items)) ≤ exprs_nodes_of (exprs_of l.arg-items);
}

abbrev pub decreases-add_expr : goal.decreases-add_expr
decreases-add_expr l = 3 * expr_nodes_of (expr_of l.e.now)

abbrev pub decreases-add_place : goal.decreases-add_place
decreases-add_place l = 3 * place_nodes_of (place_of l.place.now)

abbrev pub decreases-add_both : goal.decreases-add_both
decreases-add_both l = 3 * (expr_nodes_of (expr_of l.a.now) + expr_nodes_of (expr_of l.b.now)) + 1

abbrev pub decreases-add_args : goal.decreases-add_args
decreases-add_args l = 3 * exprs_nodes_of (exprs_of l.args.now) + 1

abbrev pub decreases-add_three : goal.decreases-add_three
decreases-add_three l = 3 * (expr_nodes_of (expr_of l.test.now) + expr_nodes_of (expr_of l.a.now) + expr_nodes_of (expr_of l.b.now)) + 1

abbrev pub decreases-add_access : goal.decreases-add_access
decreases-add_access l = 3 * (place_nodes_of (place_of l.place.now) + expr_nodes_of (expr_of l.e.now)) + 1
