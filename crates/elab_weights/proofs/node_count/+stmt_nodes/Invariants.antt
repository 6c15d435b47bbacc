use Rattle.std.proofs.Common.{◌≡◌, ◌≤◌, ◌+◌, drop}
use Rattle.nesc_core.specs.Nodes.{stmts_nodes_of}
use Rattle.nesc_core.specs.View.{stmts_of}
use Rattle.elab_weights.specs.Bounded.{bounded}
use Rattle.elab_weights.proofs.node_count.+stmt_nodes.Given as goal

abbrev pub invariant-stmts_nodes-loop-s : goal.invariant-stmts_nodes-loop-s
invariant-stmts_nodes-loop-s l = record {
  sum : bounded (l.sum + stmts_nodes_of (stmts_of (drop l.s-index l.s-items))) ≡ bounded (stmts_nodes_of (stmts_of l.s-items));
  room : l.sum ≤ 1000000;
}
