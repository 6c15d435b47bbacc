use Rattle.std.proofs.Common.{◌-◌, ◌≤◌, length}
use Rattle.nesc_macros.specs.Groups.{Walks, parts}
use Rattle.nesc_macros.proofs.waiting.argument_end.Given as goal

abbrev pub invariant-loop-waiting : goal.invariant-loop-waiting
invariant-loop-waiting l = record {
  within : l.at ≤ length l.tokens.items;
  depth : l.depth ≤ l.at;
  walks : Walks (parts l.tokens.items) l.at l.depth;
}

abbrev pub decreases-loop-waiting : goal.decreases-loop-waiting
decreases-loop-waiting l = length l.tokens.items - l.at
