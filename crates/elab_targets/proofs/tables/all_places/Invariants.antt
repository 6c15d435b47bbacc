use Rattle.std.proofs.Common.{map, take}
use Rattle.elab_targets.specs.Starts.{AllPlaces}
use Rattle.elab_targets.specs.View.{instance_of}
use Rattle.elab_targets.proofs.tables.all_places.Given as goal

abbrev pub invariant-loop-instance : goal.invariant-loop-instance
invariant-loop-instance l = AllPlaces (map instance_of (take l.instance-index l.instances)) l.all.items
