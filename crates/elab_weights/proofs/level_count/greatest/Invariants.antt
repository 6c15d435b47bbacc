use Rattle.std.proofs.Common.{◌≡◌, drop, max}
use Rattle.nesc_core.specs.View.{exprs_of}
use Rattle.nesc_core.specs.Weights.{greatest_levels}
use Rattle.elab_weights.specs.Bounded.{bounded}
use Rattle.elab_weights.proofs.level_count.greatest.Given as goal

abbrev pub invariant-loop-arg : goal.invariant-loop-arg
invariant-loop-arg l = record {
  most : max l.most (bounded (greatest_levels (exprs_of (drop l.arg-index l.arg-items)))) ≡ bounded (greatest_levels (exprs_of l.arg-items));
}
