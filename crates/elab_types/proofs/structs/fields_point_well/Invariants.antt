use Rattle.std.proofs.Common.{◌≡◌, length, map}
use Rattle.nesc_core.specs.View.{field_of}
use Rattle.elab_meaning.specs.View.{struct_of}
use Rattle.elab_meaning.specs.Operators.{fields_point_well}
use Rattle.elab_types.proofs.structs.fields_point_well.Given as goal

abbrev pub invariant-loop-rest : goal.invariant-loop-rest
invariant-loop-rest l = fields_point_well (map struct_of l.structs) l.at (map field_of l.rest) ≡ fields_point_well (map struct_of l.structs) l.at (map field_of l.fn.fields)

abbrev pub decreases-loop-rest : goal.decreases-loop-rest
decreases-loop-rest l = length l.rest
