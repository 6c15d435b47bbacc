use Rattle.std.proofs.Common.{[], ◌++◌, sym, ◌∙◌, append-nil}
use Rattle.mote_run.specs.Held.{image_in, board_in}
use Rattle.mote_run.specs.RunText.{mote_text}
use Rattle.mote_run.proofs.Seen.{held_of}
use Rattle.mote_run.proofs.Gathered.{all_written, fails, goes_on, partly, stops}
use Rattle.mote_run.proofs.mote.MoteOf.run.Goals as goal

pub returns-in_err-end-clause-wrote : goal.returns-in_err-end-clause-wrote
returns-in_err-end-clause-wrote g c =
    let m = held_of g.D.Device.state c.args.self.now in
    let text = mote_text (image_in m) (board_in m) c.args.schedule.now c.args.budget in
    partly c.from_residual.result _ _ _ _ text c.from_residual.ensures.0 c.new-waiting.ensures
    (fails _ c.from_residual.result _ _ text [] text c.from_residual.ensures.0 (sym (append-nil text)) c.in_err-end.ensures.wrote)

pub returns-in_err-write_waiting-clause-wrote : goal.returns-in_err-write_waiting-clause-wrote
returns-in_err-write_waiting-clause-wrote g c =
    let m = held_of g.D.Device.state c.args.self.now in
    let text = mote_text (image_in m) (board_in m) c.args.schedule.now c.args.budget in
    let result = c.from_residual-in_err-write_waiting.result in
    let fault = c.from_residual-in_err-write_waiting.ensures.0 in
    partly result _ _ _ _ text fault c.new-waiting.ensures
    (stops _ _ result _ _ _ text [] [] text fault (sym (append-nil (text ++ []) ∙ append-nil text)) c.in_ok-end.ensures.wrote c.in_err-write_waiting.ensures.gathers)

pub returns-clause-wrote : goal.returns-clause-wrote
returns-clause-wrote g c =
    let m = held_of g.D.Device.state c.args.self.now in
    let text = mote_text (image_in m) (board_in m) c.args.schedule.now c.args.budget in
    all_written _ _ _ _ _ _ text c.new-waiting.ensures c.in_ok-write_waiting.ensures.none
    (goes_on _ _ _ _ _ text [] text (sym (append-nil text)) c.in_ok-end.ensures.wrote c.in_ok-write_waiting.ensures.gathers)
