use Rattle.std.proofs.Common.{◌++◌, OnOk, refl, sym}
use Rattle.std.specs.declared.result.Result.{Result}
use Rattle.std.specs.declared.result.Result.TheVariants.{Ok, Err}
use Rattle.mote_bus.specs.Accesses.{events_of}
use Rattle.mote_run.specs.Rows.{arrivals}
use Rattle.mote_run.specs.Held.{all_given, step_of, after_step}
use Rattle.mote_run.specs.RunText.{shown_behind}
use Rattle.mote_run.proofs.Seen.{held_of}
use Rattle.mote_run.proofs.OneSlot.{slot_done}
use Rattle.mote_run.proofs.Gathered.{fails, goes_on}
use Rattle.mote_run.proofs.Writing.{lines_of}
use Rattle.mote_run.proofs.mote.MoteOf.take_slot.Goals as goal

in_any_case : {A E : Type 0} {P : Type 0} (r : Result A E) → P → OnOk r P
in_any_case (Ok x) p = p
in_any_case (Err e) p = tt

pub returns-in_err-take_due-clause-wrote : goal.returns-in_err-take_due-clause-wrote
returns-in_err-take_due-clause-wrote g c = λ running f.
    let m = held_of g.D.Device.state c.args.self.now in
    let rows = c.args.due.now in
    let number = c.args.number in
    let given = all_given m rows in
    let s = step_of given in
    let done = slot_done number rows m given (after_step given s) s.stepped s.after.bus.accesses running refl refl refl refl f c.requires.goes_on in
    fails _ c.from_residual.result _ _ (lines_of number (arrivals rows)) (lines_of number (events_of s.after.bus.accesses ++ shown_behind s.stepped)) _ c.from_residual.ensures.0 (sym done.text) c.in_err-take_due.ensures.wrote

pub returns-clause-follows : goal.returns-clause-follows
returns-clause-follows g c = λ running f.
    let m = held_of g.D.Device.state c.args.self.now in
    let done = slot_done c.args.number c.args.due.now m (held_of g.D.Device.state c.take_due.new.self) (held_of g.D.Device.state c.step-stepped.new.self) c.step-stepped.result c.accesses.result.now running
    c.in_ok-take_due.ensures.held c.step-stepped.ensures.held c.step-stepped.ensures.stepped c.accesses.ensures f c.requires.goes_on in
    in_any_case c.gather_step.result done.follows

pub returns-clause-wrote : goal.returns-clause-wrote
returns-clause-wrote g c = λ running f.
    let m = held_of g.D.Device.state c.args.self.now in
    let done = slot_done c.args.number c.args.due.now m (held_of g.D.Device.state c.take_due.new.self) (held_of g.D.Device.state c.step-stepped.new.self) c.step-stepped.result c.accesses.result.now running
    c.in_ok-take_due.ensures.held c.step-stepped.ensures.held c.step-stepped.ensures.stepped c.accesses.ensures f c.requires.goes_on in
    goes_on (tt {0}) _ _ _ _ (lines_of c.args.number (arrivals c.args.due.now)) _ _ (sym done.text) c.in_ok-take_due.ensures.wrote c.gather_step.ensures
