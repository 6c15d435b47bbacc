-- The homes so far, and the next one.
use Rattle.std.proofs.Common.{◌≡◌, ℕ, ◌+◌, ◌*◌, ◌<◌, ◌≤◌, length}
use Rattle.std.specs.Prelude.{slice_index}
use Rattle.mid_code.specs.declared.code.MidFn.{MidFn}
use Rattle.msp_select.specs.Frames.{frame_place, others_below, own_bytes, rounded}
use Rattle.select_emitter.specs.Pushes.{AreBehind}
use Rattle.select_emitter.proofs.frames.homes.Given as goal

abbrev pub invariant-loop-place : goal.invariant-loop-place
invariant-loop-place l = record {
  many : length l.homes.items ≡ l.place-index;
  near : l.next ≤ l.bytes + 2 * l.place-index;
  next : (fn : MidFn) → AreBehind fn.params l.behind → l.bytes ≡ rounded fn.frame → l.next ≡ rounded fn.frame + 2 * others_below fn.params l.place-index;
  homes : (fn : MidFn) → AreBehind fn.params l.behind → l.bytes ≡ rounded fn.frame → l.own ≡ own_bytes fn → (v : ℕ) → v < l.place-index → slice_index l.homes.items v ≡ frame_place fn v;
}
