use Rattle.std.proofs.Common.{◌≤◌}
use Rattle.std.specs.declared.result.Result.TheVariants.{Ok}
use Rattle.mote_bus.specs.Mote.{mote_after, events}
use Rattle.mote_text.specs.TraceText.{trace_lines}
use Rattle.mote_run.specs.Held.{Follows, image_in, board_in}
use Rattle.mote_run.specs.Gathers.{Gathers, gathering}
use Rattle.mote_run.proofs.Seen.{held_of}
use Rattle.mote_run.proofs.SlotBySlot.{IsRest}
use Rattle.mote_run.proofs.mote.MoteOf.run_slots.Given as goal

-- the mote after the slots so far, their lines, and the rows that are left
abbrev pub invariant-loop-slot : goal.invariant-loop-slot
invariant-loop-slot g l =
    let m = held_of g.D.Device.state l.fn.self in
    record {
      follows : Follows (held_of g.D.Device.state l.self) (mote_after (image_in m) (board_in m) l.schedule l.slot);
      wrote : Gathers {A = Unit {0}} (Ok (tt {0})) (gathering (g.S.Sink.seen l.fn.out) l.fn.waiting.items) (gathering (g.S.Sink.seen l.out) l.waiting.items) (trace_lines (events (image_in m) (board_in m) l.schedule l.slot));
      rest : IsRest l.schedule l.rest l.slot;
      slots : l.self.slots ≤ l.slot;
      ran : l.self.ran ≤ l.slot;
    }
