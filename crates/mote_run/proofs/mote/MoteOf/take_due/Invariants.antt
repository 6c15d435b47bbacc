use Rattle.std.proofs.Common.{◌≡◌, take, drop}
use Rattle.std.specs.declared.result.Result.TheVariants.{Ok}
use Rattle.mote_text.specs.TraceText.{trace_lines}
use Rattle.mote_run.specs.Rows.{board_after, arrivals}
use Rattle.mote_run.specs.Held.{board_in, with_board}
use Rattle.mote_run.specs.Gathers.{Gathers, gathering}
use Rattle.mote_run.specs.RunText.{in_slot}
use Rattle.mote_run.proofs.Seen.{held_of}
use Rattle.mote_run.proofs.mote.MoteOf.take_due.Given as goal

-- the rows so far have happened, and their lines are written
abbrev pub invariant-loop-row : goal.invariant-loop-row
invariant-loop-row g l =
    let before = held_of g.D.Device.state l.fn.self in
    let now = held_of g.D.Device.state l.self in
    record {
      held : now ≡ with_board before (board_in now);
      rest : board_after (board_in now) (drop l.row-index l.due) ≡ board_after (board_in before) l.due;
      wrote : Gathers {A = Unit {0}} (Ok tt) (gathering (g.S.Sink.seen l.fn.out) l.fn.waiting.items) (gathering (g.S.Sink.seen l.out) l.waiting.items) (trace_lines (in_slot l.number (arrivals (take l.row-index l.due))));
    }
