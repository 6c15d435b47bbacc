use Rattle.std.proofs.Common.{◌≡◌, ◌-◌, length, drop, map}
use Rattle.elab_meaning.specs.View.{state_of}
use Rattle.wire_facts.specs.Seen.{instances_told}
use Rattle.wire_scopes.specs.Keys.{types_in}
use Rattle.wire_scopes.specs.View.{base_view}
use Rattle.wire_elements.specs.View.{seen_of}
use Rattle.wire_told.specs.View.{application_of}
use Rattle.wire_told.proofs.instances.instances_told.Given as goal

abbrev pub invariant-loop-instance : goal.invariant-loop-instance
invariant-loop-instance l =
    instances_told (application_of l.app.sources.now) (base_view l.app.base) 0 l.app.sources.now.made.now (map seen_of l.fn.sight.seen.items) (types_in l.fn.sight.types, state_of l.fn.sight.work)
    ≡ instances_told (application_of l.app.sources.now) (base_view l.app.base) l.instance (drop l.instance l.app.sources.now.made.now) (map seen_of l.sight.seen.items) (types_in l.sight.types, state_of l.sight.work)

abbrev pub decreases-loop-instance : goal.decreases-loop-instance
decreases-loop-instance l = length l.app.sources.now.made.now - l.instance
