use Rattle.std.proofs.Common.{List, ◌++◌, map, take}
use Rattle.program_meaning.specs.Modules.{uses_in_instances}
use Rattle.program_meaning.specs.declared.used.Use.{Use}
use Rattle.elab_targets.specs.Places.{AreUsed}
use Rattle.elab_targets.specs.View.{instance_of}
use Rattle.elab_told.proofs.uses.add_instance_uses.Given as goal

abbrev pub invariant-loop-instance : goal.invariant-loop-instance
invariant-loop-instance l = (us : List Use) → AreUsed us l.fn.used → AreUsed (us ++ uses_in_instances (map instance_of (take l.instance-index l.instances))) l.used
