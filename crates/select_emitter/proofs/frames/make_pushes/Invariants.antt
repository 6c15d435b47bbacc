-- The last parameters are counted.
use Rattle.std.proofs.Common.{◌≡◌, ◌≤◌, drop, length}
use Rattle.select_emitter.specs.Pushes.{IsPushed}
use Rattle.select_emitter.proofs.frames.make_pushes.Given as goal

abbrev pub invariant-loop-at : goal.invariant-loop-at
invariant-loop-at l = record {
  within : l.at ≤ length l.params;
  long : length l.pushes.flags.items ≡ length l.params;
  pushed : IsPushed l.values (drop l.at l.params) l.at l.pushes.words l.pushes.flags.items l.pushes.behind.items;
}

abbrev pub decreases-loop-at : goal.decreases-loop-at
decreases-loop-at l = l.at
