use Rattle.std.proofs.Common.{[], ◌++◌, ◌+◌, ap, sym, ◌∙◌, append-nil, drop, take}
use Rattle.mote_run.specs.Rows.{arrivals, board_after}
use Rattle.mote_run.specs.Held.{Held, board_in}
use Rattle.mote_run.proofs.DueRows.{given_board, given_held}
use Rattle.mote_run.proofs.Seen.{held_of}
use Rattle.mote_run.proofs.Gathered.{stops, goes_on}
use Rattle.mote_run.proofs.Writing.{lines_of, next_lines, all_lines, arrivals-append}
use Rattle.mote_run.proofs.mote.MoteOf.take_due.Goals as goal

pub returns-in_err-gather_event-clause-wrote : goal.returns-in_err-gather_event-clause-wrote
returns-in_err-gather_event-clause-wrote g c =
    let number = c.args.number in
    let due = c.args.due.now in
    let i = c.loop-row.row-index in
    stops (tt {0}) _ c.from_residual.result _ _ _ (lines_of number (arrivals (take i due))) _ (lines_of number (arrivals (drop (i + 1) due) ++ [])) _ c.from_residual.ensures.0
    (ap (lines_of number) (sym (append-nil (arrivals due)))
    ∙ all_lines arrivals arrivals-append number due i _ c.loop-row-test.true []
    ∙ ap (λ l. (lines_of number (arrivals (take i due)) ++ l) ++ lines_of number (arrivals (drop (i + 1) due) ++ [])) (append-nil _))
    c.loop-row.invariant.wrote c.in_err-gather_event.ensures

pub loop-row-preserved : goal.loop-row-preserved
loop-row-preserved g c =
    let number = c.args.number in
    let due = c.args.due.now in
    let i = c.loop-row.row-index in
    let before = held_of g.D.Device.state c.args.self.now in
    let now = held_of g.D.Device.state c.loop-row.self in
    let next = held_of g.D.Device.state c.give.new.self in
    record {
      held = given_held before now next _ c.give.ensures c.loop-row.invariant.held;
      rest = ap (λ b. board_after b (drop (i + 1) due)) (ap (λ (m : Held). board_in m) c.give.ensures) ∙ given_board (board_in now) due i _ c.loop-row-test.true ∙ c.loop-row.invariant.rest;
      wrote = goes_on (tt {0}) _ _ _ _ (lines_of number (arrivals (take i due))) _ _
          (next_lines arrivals arrivals-append number due i _ c.loop-row-test.true ∙ ap (λ l. lines_of number (arrivals (take i due)) ++ l) (append-nil _))
          c.loop-row.invariant.wrote c.in_ok-gather_event.ensures;
    }
