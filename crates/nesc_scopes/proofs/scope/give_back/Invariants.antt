-- What is left to be taken back.
use Rattle.std.proofs.Common.{◌≡◌, length}
use Rattle.nesc_tree.specs.Changes.{all_taken_back}
use Rattle.nesc_scopes.proofs.scope.give_back.Given as goal

abbrev pub invariant-loop-change : goal.invariant-loop-change
invariant-loop-change l = all_taken_back l.left.items l.names ≡ all_taken_back l.fn.changes.items l.fn.names

abbrev pub decreases-loop-change : goal.decreases-loop-change
decreases-loop-change l = length l.left.items
