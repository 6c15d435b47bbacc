use Rattle.std.proofs.Common.{◌≡◌, length}
use Rattle.wire_units.specs.Scope.{declare_all}
use Rattle.wire_units.specs.Faces.{items_of}
use Rattle.wire_units.proofs.face.declare_items.Given as goal

abbrev pub invariant-loop-item : goal.invariant-loop-item
invariant-loop-item l = declare_all l.scope (items_of l.rest) ≡ declare_all l.fn.scope (items_of l.items)

abbrev pub decreases-loop-item : goal.decreases-loop-item
decreases-loop-item l = length l.rest
