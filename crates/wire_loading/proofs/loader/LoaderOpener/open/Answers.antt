use Rattle.std.proofs.Common.{rules, ◌≡◌, ◌++◌, ◌∷◌, [], Err}
use Rattle.wire_loading.specs.Needs.{needs_of}
use Rattle.wire_loading.specs.Opened.{held, loaded}
use Rattle.wire_loading.proofs.Opening.{opens, fails_to_parse, fails_to_expand}
use Rattle.wire_loading.proofs.loader.LoaderOpener.open.Goals as goal

pub returns-in_err-text-clause-refused : goal.returns-in_err-text-clause-refused
returns-in_err-text-clause-refused g c = λ told tells fault h refusal.
    let e : c.text_of.result ≡ Err fault = search rules in
    let old = c.args.self.now in
    fails_to_expand g.P.UnitParser.Parses told (held old.reading old.names old.units.items) c.args.need.now _ _ fault
    (c.text_of.ensures.refused told tells fault e refusal) c.in_ok-file.ensures

pub returns-in_err-unit-clause-refused : goal.returns-in_err-unit-clause-refused
returns-in_err-unit-clause-refused g c = λ told tells fault h refusal.
    let e : c.parsed.result ≡ Err fault = search rules in
    let old = c.args.self.now in
    fails_to_parse g.P.UnitParser.Parses told (held old.reading old.names old.units.items) c.args.need.now _ _ _ _ _ _ fault
    (c.in_ok-text.ensures.expanded told tells) c.parsed.ensures.parsed c.in_ok-file.ensures c.in_ok-text.ensures.file e

pub returns-clause-opened : goal.returns-clause-opened
returns-clause-opened g c = λ told tells.
    let old = c.args.self.now in
    let needs : c.in_ok-needs.needs.items ≡ needs_of c.in_ok-unit.unit.part = search rules in
    let units : c.push.new.self.items ≡ old.units.items ++ loaded c.in_ok-text.text.tokens.items c.in_ok-unit.unit ∷ [] = search rules in
    opens g.P.UnitParser.Parses told (held old.reading old.names old.units.items) c.args.need.now _ _ _ _ _ _ _ _
    (c.in_ok-text.ensures.expanded told tells) c.in_ok-unit.ensures.parsed c.in_ok-file.ensures c.in_ok-text.ensures.file needs units
