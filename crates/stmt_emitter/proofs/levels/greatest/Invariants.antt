use Rattle.std.proofs.Common.{◌≡◌, ◌<◌, ◌^◌, drop, max}
use Rattle.nesc_core.specs.View.{exprs_of}
use Rattle.nesc_core.specs.Weights.{greatest_levels}
use Rattle.stmt_emitter.proofs.levels.greatest.Given as goal

abbrev pub invariant-loop-arg : goal.invariant-loop-arg
invariant-loop-arg l = record {
  most : max l.most (greatest_levels (exprs_of (drop l.arg-index l.arg-items))) ≡ greatest_levels (exprs_of l.arg-items);
  room : greatest_levels (exprs_of (drop l.arg-index l.arg-items)) < 2 ^ 32;
}
