use Rattle.std.proofs.Common.{◌≡◌, ◌++◌, length}
use Rattle.wire_paths.specs.Wires.{wires_of}
use Rattle.wire_paths.proofs.wires.wires_of.Given as goal

abbrev pub invariant-loop-pair : goal.invariant-loop-pair
invariant-loop-pair l = l.wires.items ++ wires_of l.way l.rest ≡ wires_of l.way l.pairs

abbrev pub decreases-loop-pair : goal.decreases-loop-pair
decreases-loop-pair l = length l.rest
