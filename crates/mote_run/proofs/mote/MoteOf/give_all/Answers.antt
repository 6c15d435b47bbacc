use Rattle.std.proofs.Common.{◌+◌, ap, ◌∙◌, drop}
use Rattle.mote_run.specs.Rows.{board_after}
use Rattle.mote_run.specs.Held.{Held, board_in}
use Rattle.mote_run.proofs.DueRows.{given_board, given_held}
use Rattle.mote_run.proofs.Seen.{held_of}
use Rattle.mote_run.proofs.mote.MoteOf.give_all.Goals as goal

pub loop-row-preserved : goal.loop-row-preserved
loop-row-preserved g c =
    let due = c.args.due.now in
    let i = c.loop-row.row-index in
    let before = held_of g.D.Device.state c.args.self.now in
    let now = held_of g.D.Device.state c.loop-row.self in
    let next = held_of g.D.Device.state c.give.new.self in
    record {
      held = given_held before now next _ c.give.ensures c.loop-row.invariant.held;
      rest = ap (λ b. board_after b (drop (i + 1) due)) (ap (λ (m : Held). board_in m) c.give.ensures) ∙ given_board (board_in now) due i _ c.loop-row-test.true ∙ c.loop-row.invariant.rest;
    }
