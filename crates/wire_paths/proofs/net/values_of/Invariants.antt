use Rattle.std.proofs.Common.{◌≡◌, length}
use Rattle.wire_paths.specs.Wires.{values_of, values_behind}
use Rattle.wire_paths.proofs.net.values_of.Given as goal

abbrev pub invariant-loop-wire : goal.invariant-loop-wire
invariant-loop-wire l = values_behind l.values.keys l.rest ≡ values_of l.wires

abbrev pub decreases-loop-wire : goal.decreases-loop-wire
decreases-loop-wire l = length l.rest
