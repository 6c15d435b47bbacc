use Rattle.std.proofs.Common.{◌≡◌, ◌+◌, ◌++◌, map, drop}
use Rattle.nesc_core.specs.Nodes.{exprs_nodes_of}
use Rattle.nesc_core.specs.View.{exprs_of}
use Rattle.call_graph.specs.Uses.{exprs_uses}
use Rattle.call_graph.specs.View.{use_of}
use Rattle.call_graph.proofs.uses.+expr_uses.Given as goal

abbrev pub invariant-args_uses-loop-a : goal.invariant-args_uses-loop-a
invariant-args_uses-loop-a l =
    (l.behind + exprs_nodes_of (exprs_of (drop l.a-index l.a-items)) ≡ l.node + exprs_nodes_of (exprs_of l.args))
    × (map use_of l.out.items ++ exprs_uses l.behind l.is_inside (exprs_of (drop l.a-index l.a-items)) ≡ map use_of l.initial.out.items ++ exprs_uses l.node l.is_inside (exprs_of l.args))
