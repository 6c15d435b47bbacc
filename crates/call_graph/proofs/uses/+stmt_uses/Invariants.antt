use Rattle.std.proofs.Common.{◌≡◌, ◌+◌, ◌++◌, map, drop}
use Rattle.nesc_core.specs.Nodes.{stmts_nodes_of}
use Rattle.nesc_core.specs.View.{stmts_of}
use Rattle.call_graph.specs.Uses.{stmts_uses}
use Rattle.call_graph.specs.View.{use_of}
use Rattle.call_graph.proofs.uses.+stmt_uses.Given as goal

abbrev pub invariant-stmts_uses-loop-s : goal.invariant-stmts_uses-loop-s
invariant-stmts_uses-loop-s l =
    (l.behind + stmts_nodes_of (stmts_of (drop l.s-index l.s-items)) ≡ l.node + stmts_nodes_of (stmts_of l.list))
    × (map use_of l.out.items ++ stmts_uses l.behind l.is_inside (stmts_of (drop l.s-index l.s-items)) ≡ map use_of l.initial.out.items ++ stmts_uses l.node l.is_inside (stmts_of l.list))
