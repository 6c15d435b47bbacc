use Rattle.std.proofs.Common.{◌≡◌, map, length}
use Rattle.core_meaning.specs.Flow as flow
use Rattle.nesc_core.specs.View.{case_of}
use Rattle.stmt_emitter.specs.Starts.{StartBelow}
use Rattle.stmt_emitter.proofs.cases.start_of_default.Given as goal

abbrev pub invariant-loop-case : goal.invariant-loop-case
invariant-loop-case l = record {
  start : flow.start_of_default (map case_of l.rest) ≡ flow.start_of_default (map case_of l.fn.cases);
  inside : StartBelow l.count (map case_of l.rest);
}

abbrev pub decreases-loop-case : goal.decreases-loop-case
decreases-loop-case l = length l.rest
