use Rattle.std.proofs.Common.{◌≡◌, ◌∷◌, ◌++◌, length}
use Rattle.nesc_preproc.specs.Lines.{run_of, behind_run}
use Rattle.nesc_preproc.proofs.lines.take_run.Given as goal

abbrev pub invariant-loop-token : goal.invariant-loop-token
invariant-loop-token l = record {
  taken : l.run.items ++ run_of l.rest.items ≡ l.fn.token ∷ run_of l.fn.rest.items;
  left : behind_run l.rest.items ≡ behind_run l.fn.rest.items;
}

abbrev pub decreases-loop-token : goal.decreases-loop-token
decreases-loop-token l = length l.rest.items
