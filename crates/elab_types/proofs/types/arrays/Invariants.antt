use Rattle.std.proofs.Common.{◌≡◌, length, map}
use Rattle.nesc_core.specs.View.{type_of}
use Rattle.elab_meaning.specs.View.{struct_of}
use Rattle.elab_meaning.specs.Operators.{arrays}
use Rattle.elab_types.proofs.types.arrays.Given as goal

abbrev pub invariant-lengths : goal.invariant-lengths
invariant-lengths l = arrays (map struct_of l.structs) l.at (type_of l.t) l.rest.items ≡ arrays (map struct_of l.structs) l.at (type_of l.fn.part) l.fn.lengths.items

abbrev pub decreases-lengths : goal.decreases-lengths
decreases-lengths l = length l.rest.items
