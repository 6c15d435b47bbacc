use Rattle.std.proofs.Common.{◌≡◌, ◌+◌, ◌*◌, ◌≤◌, [], length, map}
use Rattle.nesc_macros.specs.Invocation.{actuals}
use Rattle.nesc_macros.specs.Numbers.{Scope, all_shown}
use Rattle.nesc_macros.specs.Code.{weight_of_lists}
use Rattle.nesc_macros.proofs.invocation.take_arguments.Given as goal

abbrev pub invariant-loop-end : goal.invariant-loop-end
invariant-loop-end l = record {
  steps : (scope : Scope) → actuals 0 [] (map (all_shown scope) l.lists.items) (all_shown scope l.pending) ≡ actuals 0 [] [] (all_shown scope l.fn.pending);
  weight : weight_of_lists l.lists.items + 2 * length l.pending ≤ 2 * length l.fn.pending;
}

abbrev pub decreases-loop-end : goal.decreases-loop-end
decreases-loop-end l = length l.pending
