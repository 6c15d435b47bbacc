use Rattle.std.proofs.Common.{◌≡◌, ◌++◌, map, length}
use Rattle.lower_stmt.specs.Code.{cases_code}
use Rattle.nesc_core.specs.View.{case_of}
use Rattle.stmt_emitter.specs.Starts.{StartBelow}
use Rattle.stmt_emitter.proofs.cases.put_cases.Given as goal

abbrev pub invariant-loop-case : goal.invariant-loop-case
invariant-loop-case l = record {
  code : l.code.items ++ cases_code l.t (map case_of l.rest) l.default l.r l.l ≡ l.fn.code.items ++ cases_code l.t (map case_of l.fn.cases) l.default l.r l.l;
  inside : StartBelow l.count (map case_of l.rest);
}

abbrev pub decreases-loop-case : goal.decreases-loop-case
decreases-loop-case l = length l.rest
