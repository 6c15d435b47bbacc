use Rattle.std.proofs.Common.{◌≡◌, ◌++◌, drop}
use Rattle.elab_application.specs.Ends.{sinks_of}
use Rattle.elab_application.proofs.routes.sinks_of.Given as goal

abbrev pub invariant-loop-one : goal.invariant-loop-one
invariant-loop-one l = l.sinks.items ++ sinks_of l.way l.units (drop l.one-index l.made) ≡ sinks_of l.way l.units l.made
