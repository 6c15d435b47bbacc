use Rattle.std.proofs.Common.{length}
use Rattle.wire_paths.specs.Wires.{values_of}
use Rattle.elab_application.proofs.Named.{Leads}
use Rattle.elab_application.proofs.ends.named_within.Given as goal

abbrev pub invariant-loop-value : goal.invariant-loop-value
invariant-loop-value l = Leads l.routes.net.now.wires.items l.routes.sinks.items l.place.instance l.place.element l.others l.greatest (values_of l.routes.net.now.wires.items) l.rest l.named.items

abbrev pub decreases-loop-value : goal.decreases-loop-value
decreases-loop-value l = length l.rest
