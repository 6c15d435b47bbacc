use Rattle.std.proofs.Common.{◌≡◌, drop}
use Rattle.mote_run.specs.Rows.{board_after}
use Rattle.mote_run.specs.Held.{board_in, with_board}
use Rattle.mote_run.proofs.Seen.{held_of}
use Rattle.mote_run.proofs.mote.MoteOf.give_all.Given as goal

-- the rows so far have happened
abbrev pub invariant-loop-row : goal.invariant-loop-row
invariant-loop-row g l =
    let before = held_of g.D.Device.state l.fn.self in
    let now = held_of g.D.Device.state l.self in
    record {
      held : now ≡ with_board before (board_in now);
      rest : board_after (board_in now) (drop l.row-index l.due) ≡ board_after (board_in before) l.due;
    }
