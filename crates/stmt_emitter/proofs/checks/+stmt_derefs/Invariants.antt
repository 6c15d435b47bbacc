use Rattle.std.proofs.Common.{◌≡◌, ◌+◌, ◌*◌, ◌≤◌, drop, map}
use Rattle.nesc_core.specs.Derefs.{stmts_derefs}
use Rattle.nesc_core.specs.Nodes.{stmt_nodes_of, stmts_nodes_of}
use Rattle.nesc_core.specs.View.{stmt_of, stmts_of, type_of}
use Rattle.lower_stmt.specs.Bodies.{in_order}
use Rattle.stmt_emitter.proofs.checks.+stmt_derefs.Given as goal

abbrev pub invariant-add_stmts-loop-s : goal.invariant-add_stmts-loop-s
invariant-add_stmts-loop-s l = record {
  seen : in_order (map type_of l.seen.items) (stmts_derefs (stmts_of (drop l.s-index l.s-items))) ≡ in_order (map type_of l.fn.seen.items) (stmts_derefs (stmts_of l.s-items));
  smaller : stmts_nodes_of (stmts_of (drop l.s-index l.s-items)) ≤ stmts_nodes_of (stmts_of l.s-items);
}

abbrev pub decreases-add_stmt : goal.decreases-add_stmt
decreases-add_stmt l = 3 * stmt_nodes_of (stmt_of l.s.now)

abbrev pub decreases-add_branch : goal.decreases-add_branch
decreases-add_branch l = 3 * (stmt_nodes_of (stmt_of l.a.now) + stmt_nodes_of (stmt_of l.b.now)) + 1

abbrev pub decreases-add_loop : goal.decreases-add_loop
decreases-add_loop l = 3 * stmt_nodes_of (stmt_of l.body.now) + 1

abbrev pub decreases-add_here : goal.decreases-add_here
decreases-add_here l = 3 * stmt_nodes_of (stmt_of l.body.now) + 1

abbrev pub decreases-add_switch : goal.decreases-add_switch
decreases-add_switch l = 3 * stmts_nodes_of (stmts_of l.list.now) + 2

abbrev pub decreases-add_stmts : goal.decreases-add_stmts
decreases-add_stmts l = 3 * stmts_nodes_of (stmts_of l.list.now) + 1
