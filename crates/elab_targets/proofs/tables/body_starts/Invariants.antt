use Rattle.std.proofs.Common.{◌≡◌, ◌++◌, drop}
use Rattle.elab_targets.specs.Starts.{bodies_of, starts}
use Rattle.elab_targets.proofs.tables.body_starts.Given as goal

abbrev pub invariant-loop-places : goal.invariant-loop-places
invariant-loop-places l = l.found.items ++ starts bodies_of l.next (drop l.places-index l.instances) ≡ starts bodies_of l.first l.instances
