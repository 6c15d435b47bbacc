use Rattle.std.proofs.Common.{◌≡◌, ◌+◌, length, map}
use Rattle.wire_elements.specs.View.{seen_of}
use Rattle.wire_told.specs.View.{application_of}
use Rattle.elab_targets.specs.View.{instance_of}
use Rattle.elab_application.specs.Instances.{IsInstance}
use Rattle.elab_application.proofs.Each.{LeadsFrom}
use Rattle.elab_application.proofs.instances.instances_of.Given as goal

abbrev pub invariant-loop-one : goal.invariant-loop-one
invariant-loop-one l = record {
  counted : l.number + length l.rest ≡ length l.ground.made.now;
  made : LeadsFrom (IsInstance l.ground.units.now l.ground.made.now l.ground.pairs.now (application_of l.sources) (map seen_of l.seen)) instance_of l.ground.made.now l.number l.rest l.all.items;
}

abbrev pub decreases-loop-one : goal.decreases-loop-one
decreases-loop-one l = length l.rest
