use Rattle.std.proofs.Common.{◌≡◌, [], length, map}
use Rattle.std.proofs.lemmas.List.{nil_from_length}
use Rattle.wire_elements.specs.View.{seen_of}
use Rattle.wire_told.specs.View.{application_of}
use Rattle.elab_targets.specs.View.{instance_of}
use Rattle.elab_application.specs.Instances.{IsInstance}
use Rattle.elab_application.proofs.Each.{counted_next, made_next, made_whole}
use Rattle.elab_application.proofs.instances.instances_of.Goals as goal

pub loop-one-preserved : goal.loop-one-preserved
loop-one-preserved c =
    let ground = c.args.ground.now in
    let is = IsInstance ground.units.now ground.made.now ground.pairs.now (application_of c.args.sources.now) (map seen_of c.args.seen.now) in
    record {
      counted = counted_next c.loop-one.number (length ground.made.now) c.loop-one.rest.now _ _ c.in-Some.ensures.cases.0 c.loop-one.invariant.counted;
      made = made_next is instance_of ground.made.now c.loop-one.number c.loop-one.rest.now _ _ c.loop-one.all.items c.push.new.self.items c.in_ok-instance.field-0
          c.in-Some.ensures.cases.0 c.in_ok-instance.ensures c.in_ok-push.ensures.items c.loop-one.invariant.made;
    }

pub returns : goal.returns
returns c =
    let ground = c.args.ground.now in
    let none : c.loop-one.rest.now ≡ [] = nil_from_length c.loop-one.rest.now c.in_default.ensures.cases in
    made_whole (IsInstance ground.units.now ground.made.now ground.pairs.now (application_of c.args.sources.now) (map seen_of c.args.seen.now)) instance_of ground.made.now
    c.loop-one.number c.loop-one.rest.now c.loop-one.all.items none c.loop-one.invariant.made
