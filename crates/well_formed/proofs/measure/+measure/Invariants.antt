use Rattle.std.proofs.Common.{◌≡◌, ◌≤◌, ◌+◌, drop}
use Rattle.nesc_core.specs.Nodes.{exprs_nodes_of}
use Rattle.nesc_core.specs.Weights.{exprs_levels}
use Rattle.nesc_core.specs.View.{exprs_of}
use Rattle.well_formed.proofs.measure.+measure.Given as goal

abbrev pub invariant-arguments-loop-arg : goal.invariant-arguments-loop-arg
invariant-arguments-loop-arg l = record {
  behind : l.inner + l.arg-index ≡ l.fn.levels;
  levels : exprs_levels (exprs_of (drop l.arg-index l.arg-items)) l.arg-index ≤ l.fn.levels → exprs_levels (exprs_of l.arg-items) 0 ≤ l.fn.levels;
  nodes : exprs_nodes_of (exprs_of l.arg-items) + l.left ≤ l.fn.left + exprs_nodes_of (exprs_of (drop l.arg-index l.arg-items));
}
