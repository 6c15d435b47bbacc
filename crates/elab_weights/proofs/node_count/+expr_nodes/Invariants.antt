use Rattle.std.proofs.Common.{◌≡◌, ◌≤◌, ◌+◌, drop}
use Rattle.nesc_core.specs.Nodes.{exprs_nodes_of}
use Rattle.nesc_core.specs.View.{exprs_of}
use Rattle.elab_weights.specs.Bounded.{bounded}
use Rattle.elab_weights.proofs.node_count.+expr_nodes.Given as goal

abbrev pub invariant-args_nodes-loop-a : goal.invariant-args_nodes-loop-a
invariant-args_nodes-loop-a l = record {
  sum : bounded (l.sum + exprs_nodes_of (exprs_of (drop l.a-index l.a-items))) ≡ bounded (exprs_nodes_of (exprs_of l.a-items));
  room : l.sum ≤ 1000000;
}
