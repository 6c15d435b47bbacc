use Rattle.std.proofs.Common.{◌≡◌, ◌<◌, ◌^◌, drop, max}
use Rattle.nesc_core.specs.View.{stmts_of}
use Rattle.nesc_core.specs.Weights.{stmts_atomics}
use Rattle.stmt_emitter.proofs.levels.+stmt_atomics.Given as goal

abbrev pub invariant-atomics_of_all-loop-s : goal.invariant-atomics_of_all-loop-s
invariant-atomics_of_all-loop-s l = record {
  most : max l.most (stmts_atomics (stmts_of (drop l.s-index l.s-items))) ≡ stmts_atomics (stmts_of l.s-items);
  room : stmts_atomics (stmts_of (drop l.s-index l.s-items)) < 2 ^ 16;
}
