use Rattle.std.proofs.Common.{◌≤◌, ◌+◌, drop}
use Rattle.nesc_core.specs.Nodes.{exprs_nodes_of}
use Rattle.nesc_core.specs.Weights.{greatest_levels}
use Rattle.nesc_core.specs.View.{exprs_of}
use Rattle.well_formed.proofs.measure.each_argument.Given as goal

abbrev pub invariant-loop-arg : goal.invariant-loop-arg
invariant-loop-arg l = record {
  levels : greatest_levels (exprs_of (drop l.arg-index l.arg-items)) ≤ l.levels → greatest_levels (exprs_of l.arg-items) ≤ l.levels;
  nodes : exprs_nodes_of (exprs_of l.arg-items) + l.left ≤ l.fn.left + exprs_nodes_of (exprs_of (drop l.arg-index l.arg-items));
}
