use Rattle.std.proofs.Common.{ℕ, List, [], ◌∷◌, ◌++◌, refl, ap, sym, ◌∙◌, append-nil}
use Rattle.mote_bus.specs.Mote.{mote, mote_after, events}
use Rattle.mote_text.specs.TraceText.{trace_lines, end_text}
use Rattle.mote_run.specs.Held.{image_in, board_in}
use Rattle.mote_run.proofs.Seen.{held_of}
use Rattle.mote_run.proofs.SlotBySlot.{ended, end_lines}
use Rattle.mote_run.proofs.Gathered.{fails, stops, goes_on, answers}
use Rattle.mote_run.proofs.mote.MoteOf.run_to_end.Goals as goal

pub returns-in_err-run_slots-clause-wrote : goal.returns-in_err-run_slots-clause-wrote
returns-in_err-run_slots-clause-wrote g c =
    let m = held_of g.D.Device.state c.args.self.now in
    let r = mote (image_in m) (board_in m) c.args.schedule.now c.args.budget in
    fails _ c.from_residual.result _ _ (trace_lines (events (image_in m) (board_in m) c.args.schedule.now c.args.budget)) (end_text r.slots r.ran r.least r.off ++ 10 ∷ []) _ c.from_residual.ensures.0 refl c.in_err-run_slots.ensures.wrote

pub returns-in_err-gather_end-clause-wrote : goal.returns-in_err-gather_end-clause-wrote
returns-in_err-gather_end-clause-wrote g c =
    let m = held_of g.D.Device.state c.args.self.now in
    let end = c.end-end.result in
    let lines = trace_lines (events (image_in m) (board_in m) c.args.schedule.now c.args.budget) in
    let after = mote_after (image_in m) (board_in m) c.args.schedule.now c.args.budget in
    let r = mote (image_in m) (board_in m) c.args.schedule.now c.args.budget in
    let same = end_lines end r (ended (held_of g.D.Device.state c.run_slots.new.self) after end c.in_ok-run_slots.ensures.follows c.end-end.ensures) in
    stops (tt {0}) _ c.from_residual-in_err-gather_end.result _ _ _ lines (end_text end.slots end.ran end.least end.off ++ 10 ∷ []) [] _ c.from_residual-in_err-gather_end.ensures.0
    (ap (λ (l : List ℕ). lines ++ l) same ∙ sym (append-nil (lines ++ (end_text end.slots end.ran end.least end.off ++ 10 ∷ []))))
    c.in_ok-run_slots.ensures.wrote c.in_err-gather_end.ensures

pub returns-clause-wrote : goal.returns-clause-wrote
returns-clause-wrote g c =
    let m = held_of g.D.Device.state c.args.self.now in
    let end = c.end-end.result in
    let lines = trace_lines (events (image_in m) (board_in m) c.args.schedule.now c.args.budget) in
    let after = mote_after (image_in m) (board_in m) c.args.schedule.now c.args.budget in
    let r = mote (image_in m) (board_in m) c.args.schedule.now c.args.budget in
    let same = end_lines end r (ended (held_of g.D.Device.state c.run_slots.new.self) after end c.in_ok-run_slots.ensures.follows c.end-end.ensures) in
    goes_on (tt {0}) _ _ _ _ lines (end_text end.slots end.ran end.least end.off ++ 10 ∷ []) _ (ap (λ (l : List ℕ). lines ++ l) same)
    c.in_ok-run_slots.ensures.wrote (answers _ end _ _ _ c.in_ok-gather_end.ensures)
