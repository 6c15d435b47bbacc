use Rattle.std.proofs.Common.{rules, ◌≡◌, Ok, Err}
use Rattle.wire_reading.specs.Order.{IsRefusal}
use Rattle.wire_loading.specs.declared.stopped.Stopped.{Stopped}
use Rattle.wire_loading.specs.Opened.{stopped}
use Rattle.wire_loading.proofs.Opening.{stopped_as}
use Rattle.nesc_wiring.specs.Loads.{Loads}
use Rattle.nesc_wiring.proofs.Behind.{loaded_outside, loads_as, refused_as_read, refused_in_reading, refused_outside, stopped_outside}
use Rattle.nesc_wiring.proofs.loading.load.Goals as goal

pub returns-in_err-reading-clause-outside : goal.returns-in_err-reading-clause-outside
returns-in_err-reading-clause-outside g c =
    let s = c.in_err-reading.field-0.0 in
    let e : c.read_application.result ≡ Err s = search rules in
    stopped_outside c.read_application.result _ _ _ s e (search rules) c.read_application.ensures.outside

pub returns-in_err-reading-clause-refused : goal.returns-in_err-reading-clause-refused
returns-in_err-reading-clause-refused g c = λ told tells s h refusal.
    let e : c.read_application.result ≡ Err s = search rules in
    refused_in_reading g.P.UnitParser.Declares g.P.UnitParser.Parses told c.args.app.now s (c.read_application.ensures.refused told tells s e refusal)

pub returns-in-Ok-clause-outside : goal.returns-in-Ok-clause-outside
returns-in-Ok-clause-outside g c =
    loaded_outside c.read_application.result _ _ c.in_ok-reading.field-0 _ (search rules) c.read_application.ensures.outside

pub returns-in-Ok-clause-loaded : goal.returns-in-Ok-clause-loaded
returns-in-Ok-clause-loaded g c = λ told tells.
    let l = c.in_ok-reading.field-0 in
    let n = c.in-Ok.field-0 in
    let units : c.as_slice.result.now ≡ l.units.items = search rules in
    loads_as g.P.UnitParser.Declares g.P.UnitParser.Parses told c.args.app.now l.reading l.names l.units.items c.as_slice.result.now
    n.links.made.items n.links.facts.items n.links.pairs.items units (c.in_ok-reading.ensures.read told tells) c.in-Ok.ensures.wired

pub returns-in-Err-clause-outside : goal.returns-in-Err-clause-outside
returns-in-Err-clause-outside g c =
    refused_outside c.read_application.result _ _ c.in_ok-reading.field-0 c.in-Err.fault (search rules) c.in-Err.ensures.inside c.read_application.ensures.outside

pub returns-in-Err-clause-refused : goal.returns-in-Err-clause-refused
returns-in-Err-clause-refused g c = λ told tells s h refusal.
    let l = c.in_ok-reading.field-0 in
    let units : c.as_slice.result.now ≡ l.units.items = search rules in
    let e : c.network_of.result ≡ Err c.in-Err.fault = search rules in
    stopped_as _ (λ (t : Stopped). IsRefusal t.fault → Loads g.P.UnitParser.Declares g.P.UnitParser.Parses told c.args.app.now (Err t)) (stopped c.in-Err.fault l.reading) s h
    (λ r. refused_as_read g.P.UnitParser.Declares g.P.UnitParser.Parses told c.args.app.now l.reading l.names l.units.items c.as_slice.result.now c.in-Err.fault
    units (c.in_ok-reading.ensures.read told tells) (c.network_of.ensures.refused c.in-Err.fault e r)) refusal
