use Rattle.std.proofs.Common.{◌+◌, ◌≤◌, drop, map, sum_by}
use Rattle.nesc_core.specs.Nodes.{body_nodes_of}
use Rattle.nesc_core.specs.View.{body_of}
use Rattle.well_formed.specs.declared.measure.TheConstants.{MOST_NODES}
use Rattle.well_formed.proofs.program.has_few_nodes.Given as goal

abbrev pub invariant-loop-body : goal.invariant-loop-body
invariant-loop-body l = sum_by body_nodes_of (map body_of l.body-items) + l.left ≤ MOST_NODES + sum_by body_nodes_of (map body_of (drop l.body-index l.body-items))
