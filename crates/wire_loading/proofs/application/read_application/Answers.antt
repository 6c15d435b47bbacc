use Rattle.std.proofs.Common.{rules, ◌≡◌, Err}
use Rattle.wire_reading.specs.Order.{IsRefusal}
use Rattle.wire_loading.specs.declared.stopped.Stopped.{Stopped}
use Rattle.wire_loading.specs.Opened.{ReadsAs, stopped}
use Rattle.wire_loading.proofs.Opening.{stopped_as}
use Rattle.wire_loading.proofs.application.read_application.Goals as goal

pub returns-in-Err-clause-refused : goal.returns-in-Err-clause-refused
returns-in-Err-clause-refused g c = λ told tells s h refusal.
    let e : c.read_all.result ≡ Err c.in-Err.fault = search rules in
    stopped_as _ (λ (t : Stopped). IsRefusal t.fault → ReadsAs g.P.UnitParser.Declares g.P.UnitParser.Parses told c.args.app.now (Err t)) (stopped c.in-Err.fault c.read_all.new.loader.reading) s h
    (λ r. c.read_all.ensures.refused told tells c.in-Err.fault e r) refusal
