use Rattle.std.proofs.Common.{◌≡◌, ◌++◌, drop}
use Rattle.elab_application.specs.Ends.{sinks_in}
use Rattle.elab_application.proofs.routes.sinks_in.Given as goal

abbrev pub invariant-loop-elem : goal.invariant-loop-elem
invariant-loop-elem l = l.sinks.items ++ sinks_in l.way (drop l.elem-index l.elems) ≡ sinks_in l.way l.elems
