use Rattle.std.proofs.Common.{◌≡◌, ◌+◌, ◌*◌, ◌≤◌}
use Rattle.mote_bus.specs.Mote.{mote, mote_after}
use Rattle.mote_run.specs.Held.{Follows, image_in, board_in}
use Rattle.mote_run.specs.Totals.{totals_of}
use Rattle.mote_run.proofs.Seen.{held_of}
use Rattle.mote_run.proofs.SlotBySlot.{IsRest}
use Rattle.mote_run.proofs.mote.MoteOf.count_slots.Given as goal

-- the mote after the slots so far, what they show, and the rows that are left
abbrev pub invariant-loop-slot : goal.invariant-loop-slot
invariant-loop-slot g l =
    let m = held_of g.D.Device.state l.fn.self in
    record {
      follows : Follows (held_of g.D.Device.state l.self) (mote_after (image_in m) (board_in m) l.schedule l.slot);
      counts : l.totals ≡ totals_of (mote (image_in m) (board_in m) l.schedule l.slot).shown;
      few : l.totals.outs + l.totals.enters ≤ 4 * l.slot;
      rest : IsRest l.schedule l.rest l.slot;
      slots : l.self.slots ≤ l.slot;
      ran : l.self.ran ≤ l.slot;
    }
