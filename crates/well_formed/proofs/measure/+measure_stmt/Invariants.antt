use Rattle.std.proofs.Common.{◌≤◌, ◌+◌, drop}
use Rattle.nesc_core.specs.Nodes.{stmts_nodes_of}
use Rattle.nesc_core.specs.Weights.{stmts_levels}
use Rattle.nesc_core.specs.View.{stmts_of}
use Rattle.well_formed.proofs.measure.+measure_stmt.Given as goal

abbrev pub invariant-stmts-loop-s : goal.invariant-stmts-loop-s
invariant-stmts-loop-s l = record {
  levels : stmts_levels (stmts_of (drop l.s-index l.s-items)) ≤ l.fn.levels → stmts_levels (stmts_of l.s-items) ≤ l.fn.levels;
  nodes : stmts_nodes_of (stmts_of l.s-items) + l.left ≤ l.fn.left + stmts_nodes_of (stmts_of (drop l.s-index l.s-items));
}
