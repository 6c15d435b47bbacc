-- What is written and what is left are the comparisons with all runs.
use Rattle.std.proofs.Common.{◌≡◌, ◌+◌, ◌*◌, ◌≤◌, ◌++◌, drop, take}
use Rattle.std.specs.List.{All}
use Rattle.msp_runtime.specs.Code.{items_from, labels}
use Rattle.msp_checks.specs.Checks.{IsWordRun, runs_code}
use Rattle.msp_checks.proofs.checks.put_all_runs.Given as goal

abbrev pub invariant-loop-run : goal.invariant-loop-run
invariant-loop-run l = record {
  items : l.items.items ++ items_from (runs_code l.size (drop l.run-index l.runs)) l.label ≡ l.fn.items.items ++ items_from (runs_code l.size l.runs) 5;
  label : l.label + labels (runs_code l.size (drop l.run-index l.runs)) ≡ 5 + labels (runs_code l.size l.runs);
  small : l.label ≤ 5 + 3 * l.run-index;
  words : All IsWordRun (take l.run-index l.runs);
}
