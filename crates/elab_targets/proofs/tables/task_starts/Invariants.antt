use Rattle.std.proofs.Common.{◌≡◌, ◌++◌, drop}
use Rattle.elab_targets.specs.Starts.{tasks_of, starts}
use Rattle.elab_targets.proofs.tables.task_starts.Given as goal

abbrev pub invariant-loop-places : goal.invariant-loop-places
invariant-loop-places l = l.found.items ++ starts tasks_of l.next (drop l.places-index l.instances) ≡ starts tasks_of 0 l.instances
