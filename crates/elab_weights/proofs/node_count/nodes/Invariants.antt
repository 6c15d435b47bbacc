use Rattle.std.proofs.Common.{◌≡◌, ◌≤◌, ◌+◌, drop, map, sum_by}
use Rattle.nesc_core.specs.Nodes.{body_nodes_of}
use Rattle.nesc_core.specs.View.{body_of}
use Rattle.elab_weights.specs.Bounded.{bounded}
use Rattle.elab_weights.proofs.node_count.nodes.Given as goal

abbrev pub invariant-loop-body : goal.invariant-loop-body
invariant-loop-body l = record {
  sum : bounded (l.sum + sum_by body_nodes_of (map body_of (drop l.body-index l.bodies))) ≡ bounded (sum_by body_nodes_of (map body_of l.bodies));
  room : l.sum ≤ 1000000;
}
