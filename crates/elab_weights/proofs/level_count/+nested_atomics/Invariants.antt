use Rattle.std.proofs.Common.{◌≡◌, drop, max}
use Rattle.nesc_core.specs.View.{stmts_of}
use Rattle.nesc_core.specs.Weights.{stmts_atomics}
use Rattle.elab_weights.specs.Bounded.{bounded}
use Rattle.elab_weights.proofs.level_count.+nested_atomics.Given as goal

abbrev pub invariant-atomics_of_all-loop-s : goal.invariant-atomics_of_all-loop-s
invariant-atomics_of_all-loop-s l = record {
  most : max l.most (bounded (stmts_atomics (stmts_of (drop l.s-index l.s-items)))) ≡ bounded (stmts_atomics (stmts_of l.s-items));
}
