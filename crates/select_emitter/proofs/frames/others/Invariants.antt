-- The values so far that are no parameters.
use Rattle.std.proofs.Common.{◌≡◌, ℕ, List, ◌≤◌}
use Rattle.msp_select.specs.Frames.{others_below}
use Rattle.select_emitter.specs.Pushes.{AreBehind}
use Rattle.select_emitter.proofs.frames.others.Given as goal

abbrev pub invariant-loop-place : goal.invariant-loop-place
invariant-loop-place l = record {
  few : l.others ≤ l.place-index;
  others : (ps : List ℕ) → AreBehind ps l.behind → l.others ≡ others_below ps l.place-index;
}
