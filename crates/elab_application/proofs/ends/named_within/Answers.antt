use Rattle.std.proofs.Common.{◌≡◌, []}
use Rattle.std.proofs.lemmas.List.{nil_from_length}
use Rattle.std.specs.Option.{option_map}
use Rattle.wire_paths.specs.Wires.{values_of}
use Rattle.elab_targets.specs.View.{wired_of}
use Rattle.elab_application.proofs.Named.{named_all, named_next}
use Rattle.elab_application.proofs.ends.named_within.Goals as goal

pub loop-value-preserved : goal.loop-value-preserved
loop-value-preserved c =
    let r = c.args.routes.now in
    named_next r.net.now.wires.items r.sinks.items c.args.place.instance c.args.place.element c.args.others.now c.args.greatest (values_of r.net.now.wires.items)
    c.loop-value.rest.now _ _ c.loop-value.named.items c.keep.new.named.items (option_map wired_of c.in_ok-wired.wired) c.in-Some.ensures.cases.0 c.in_ok-wired.ensures c.in_ok-keep.ensures c.loop-value.invariant

pub returns : goal.returns
returns c =
    let r = c.args.routes.now in
    let none : c.loop-value.rest.now ≡ [] = nil_from_length c.loop-value.rest.now c.in_default.ensures.cases in
    named_all r.net.now.wires.items r.sinks.items c.args.place.instance c.args.place.element c.args.others.now c.args.greatest (values_of r.net.now.wires.items)
    c.loop-value.rest.now c.loop-value.named.items none c.loop-value.invariant
