-- One run for each number so far.
use Rattle.std.proofs.Common.{◌≡◌, length}
use Rattle.routine_rows.proofs.checks.many_runs.Given as goal

abbrev pub invariant-loop-i : goal.invariant-loop-i
invariant-loop-i l = length l.runs.items ≡ l.i
