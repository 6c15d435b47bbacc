use Rattle.std.proofs.Common.{◌≡◌, ◌++◌, length}
use Rattle.wire_units.specs.Faces.{faces_of}
use Rattle.wire_units.proofs.face.faces_of.Given as goal

abbrev pub invariant-loop-loaded : goal.invariant-loop-loaded
invariant-loop-loaded l = l.faces.items ++ faces_of l.rest ≡ faces_of l.units

abbrev pub decreases-loop-loaded : goal.decreases-loop-loaded
decreases-loop-loaded l = length l.rest
