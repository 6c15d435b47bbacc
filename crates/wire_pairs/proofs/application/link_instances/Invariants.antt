use Rattle.std.proofs.Common.{◌≡◌, ◌-◌, length, drop}
use Rattle.wire_pairs.specs.Pairs.{instances_paired}
use Rattle.wire_pairs.specs.Lookup.{app_of}
use Rattle.wire_pairs.proofs.application.link_instances.Given as goal

abbrev pub invariant-loop-instance : goal.invariant-loop-instance
invariant-loop-instance l =
    instances_paired (app_of l.app) l.instance (drop l.instance l.app.made.now) l.done.items ≡ instances_paired (app_of l.app) 0 l.app.made.now l.fn.done.items

abbrev pub decreases-loop-instance : goal.decreases-loop-instance
decreases-loop-instance l = length l.app.made.now - l.instance
