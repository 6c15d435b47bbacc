use Rattle.std.proofs.Common.{◌≤◌, ◌+◌, drop, max}
use Rattle.nesc_core.specs.Weights.{stmts_atomics}
use Rattle.nesc_core.specs.View.{stmts_of}
use Rattle.well_formed.proofs.measure.+atomics.Given as goal

abbrev pub invariant-all_atomics-loop-s : goal.invariant-all_atomics-loop-s
invariant-all_atomics-loop-s l = record {
  inside : l.rest ≤ l.fn.left;
  atomics : stmts_atomics (stmts_of l.s-items) + l.rest ≤ max l.fn.left (stmts_atomics (stmts_of (drop l.s-index l.s-items)) + l.rest);
}
