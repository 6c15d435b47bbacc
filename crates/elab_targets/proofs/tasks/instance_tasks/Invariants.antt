use Rattle.std.proofs.Common.{◌≡◌, ◌++◌, map, drop}
use Rattle.program_meaning.specs.Numbers.{definitions_in, task_bodies_from}
use Rattle.elab_targets.specs.View.{instance_of}
use Rattle.elab_targets.proofs.tasks.instance_tasks.Given as goal

abbrev pub invariant-loop-instance : goal.invariant-loop-instance
invariant-loop-instance l = l.tasks.items ++ task_bodies_from l.number (definitions_in (map instance_of (drop l.instance-index l.instances)))
    ≡ l.fn.tasks.items ++ task_bodies_from l.first (definitions_in (map instance_of l.instances))
