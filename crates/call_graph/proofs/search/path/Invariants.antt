use Rattle.call_graph.proofs.Walking.{Going}
use Rattle.call_graph.proofs.search.path.Given as goal

abbrev pub decreases-loop-body : goal.decreases-loop-body
decreases-loop-body l = l.left

abbrev pub invariant-loop-body : goal.invariant-loop-body
invariant-loop-body l = Going l.table l.ends l.calls l.roots l.bodies.items l.from l.left
