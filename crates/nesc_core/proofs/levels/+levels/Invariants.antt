use Rattle.std.proofs.Common.{◌≡◌, drop, max}
use Rattle.nesc_core.specs.Levels.{counted}
use Rattle.nesc_core.specs.View.{exprs_of}
use Rattle.nesc_core.specs.Weights.{exprs_levels}
use Rattle.nesc_core.proofs.levels.+levels.Given as goal

abbrev pub invariant-args_levels-loop-arg : goal.invariant-args_levels-loop-arg
invariant-args_levels-loop-arg l = record {
  most : max l.most (counted (exprs_levels (exprs_of (drop l.arg-index l.arg-items)) l.arg-index)) ≡ counted (exprs_levels (exprs_of l.arg-items) 0);
  before : l.before ≡ counted l.arg-index;
}
