use Rattle.std.proofs.Common.{length, ◌-◌, ◌≡◌, ◌+◌, ◌*◌, ◌≤◌, [], ◌∷◌, ◌++◌}
use Rattle.wire_instances.proofs.OneMore.{SoFar}
use Rattle.wire_instances.proofs.creation.+creation.Given as goal

abbrev pub decreases-create : goal.decreases-create
decreases-create l = 2 * (501 - length l.made.now.items)

abbrev pub decreases-name : goal.decreases-name
decreases-name l = 2 * (501 - length l.made.now.items) + 1

abbrev pub invariant-create-loop-at : goal.invariant-create-loop-at
invariant-create-loop-at l = record {
  around : l.around.items ≡ l.fn.around.items ++ l.component ∷ [];
  within : l.at ≤ length l.lines;
  so_far : SoFar l.plans l.fn.around.items l.component l.fn.maker l.fn.made.items l.lines l.at l.made.items;
}

abbrev pub decreases-create-loop-at : goal.decreases-create-loop-at
decreases-create-loop-at l = length l.lines - l.at
