use Rattle.std.proofs.Common.{◌≡◌, ◌+◌, ◌*◌, ◌<◌, ◌≤◌, ◌^◌, ◌++◌, drop}
use Rattle.nesc_core.specs.Nodes.{stmt_nodes_of, stmts_nodes_of}
use Rattle.nesc_core.specs.View.{stmt_of, stmts_of}
use Rattle.nesc_core.specs.Weights.{stmts_atomics, stmts_levels}
use Rattle.nesc_core.specs.WellFormed.{count_stmts}
use Rattle.lower_stmt.specs.Code.{stmts_labels}
use Rattle.expr_emitter.specs.Scoped.{locals_in, program_in}
use Rattle.stmt_emitter.specs.Standing.{AllFit, stmts_in, switch_in}
use Rattle.stmt_emitter.proofs.statements.+emit.Given as goal

-- what is written, with what is still to be written, is what all statements give
abbrev pub invariant-emit_block-loop-s : goal.invariant-emit_block-loop-s
invariant-emit_block-loop-s l = record {
  code : l.code.items ++ stmts_in l.scope l.base (stmts_of (drop l.s-index l.s-items)) l.ways l.next ≡ l.fn.code.items ++ stmts_in l.scope l.base (stmts_of l.s-items) l.ways l.fn.next;
  next : l.next + stmts_labels (stmts_of (drop l.s-index l.s-items)) ≡ l.fn.next + stmts_labels (stmts_of l.s-items);
  fits : AllFit (program_in l.scope) (locals_in l.scope) (stmts_of (drop l.s-index l.s-items));
  labels : l.next + stmts_labels (stmts_of (drop l.s-index l.s-items)) < 2 ^ 32;
  values : l.base + (2 * stmts_levels (stmts_of (drop l.s-index l.s-items)) + 8) < 2 ^ 32;
  status : l.ways.status + 2 * stmts_atomics (stmts_of (drop l.s-index l.s-items)) ≤ 65535;
  smaller : stmts_nodes_of (stmts_of (drop l.s-index l.s-items)) ≤ stmts_nodes_of (stmts_of l.s-items);
}

abbrev pub invariant-emit_labelled-loop-s : goal.invariant-emit_labelled-loop-s
invariant-emit_labelled-loop-s l = record {
  code : l.code.items ++ switch_in l.scope l.base (stmts_of (drop l.s-index l.s-items)) l.ways l.label l.next ≡ l.fn.code.items ++ switch_in l.scope l.base (stmts_of l.s-items) l.ways l.first l.fn.next;
  next : l.next + stmts_labels (stmts_of (drop l.s-index l.s-items)) ≡ l.fn.next + stmts_labels (stmts_of l.s-items);
  fits : AllFit (program_in l.scope) (locals_in l.scope) (stmts_of (drop l.s-index l.s-items));
  own : l.label + count_stmts (stmts_of (drop l.s-index l.s-items)) < 2 ^ 32;
  labels : l.next + stmts_labels (stmts_of (drop l.s-index l.s-items)) < 2 ^ 32;
  values : l.base + (2 * stmts_levels (stmts_of (drop l.s-index l.s-items)) + 8) < 2 ^ 32;
  status : l.ways.status + 2 * stmts_atomics (stmts_of (drop l.s-index l.s-items)) ≤ 65535;
  smaller : stmts_nodes_of (stmts_of (drop l.s-index l.s-items)) ≤ stmts_nodes_of (stmts_of l.s-items);
}

-- a form calls with its parts alone
abbrev pub decreases-emit_stmt : goal.decreases-emit_stmt
decreases-emit_stmt l = 3 * stmt_nodes_of (stmt_of l.s.now)

abbrev pub decreases-emit_block : goal.decreases-emit_block
decreases-emit_block l = 3 * stmts_nodes_of (stmts_of l.list.now) + 1

abbrev pub decreases-emit_labelled : goal.decreases-emit_labelled
decreases-emit_labelled l = 3 * stmts_nodes_of (stmts_of l.list.now) + 1

abbrev pub decreases-emit_switch : goal.decreases-emit_switch
decreases-emit_switch l = 3 * stmts_nodes_of (stmts_of l.list.now) + 2

abbrev pub decreases-emit_branch : goal.decreases-emit_branch
decreases-emit_branch l = 3 * (stmt_nodes_of (stmt_of l.a.now) + stmt_nodes_of (stmt_of l.b.now)) + 1

abbrev pub decreases-emit_while : goal.decreases-emit_while
decreases-emit_while l = 3 * stmt_nodes_of (stmt_of l.body.now) + 1

abbrev pub decreases-emit_until : goal.decreases-emit_until
decreases-emit_until l = 3 * stmt_nodes_of (stmt_of l.body.now) + 1

abbrev pub decreases-emit_atomic : goal.decreases-emit_atomic
decreases-emit_atomic l = 3 * stmt_nodes_of (stmt_of l.body.now) + 1

abbrev pub decreases-emit_here : goal.decreases-emit_here
decreases-emit_here l = 3 * stmt_nodes_of (stmt_of l.body.now) + 1
