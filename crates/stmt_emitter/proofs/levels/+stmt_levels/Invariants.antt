use Rattle.std.proofs.Common.{◌≡◌, ◌<◌, ◌^◌, drop, max}
use Rattle.nesc_core.specs.View.{stmts_of}
use Rattle.nesc_core.specs.Weights.{stmts_levels}
use Rattle.stmt_emitter.proofs.levels.+stmt_levels.Given as goal

abbrev pub invariant-levels_of_all-loop-s : goal.invariant-levels_of_all-loop-s
invariant-levels_of_all-loop-s l = record {
  most : max l.most (stmts_levels (stmts_of (drop l.s-index l.s-items))) ≡ stmts_levels (stmts_of l.s-items);
  room : stmts_levels (stmts_of (drop l.s-index l.s-items)) < 2 ^ 32;
}
