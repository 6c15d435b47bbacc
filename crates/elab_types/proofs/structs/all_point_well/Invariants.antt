use Rattle.std.proofs.Common.{◌≡◌, length, map}
use Rattle.elab_meaning.specs.View.{struct_of}
use Rattle.elab_meaning.specs.Operators.{all_point_well}
use Rattle.elab_types.proofs.structs.all_point_well.Given as goal

abbrev pub invariant-loop-rest : goal.invariant-loop-rest
invariant-loop-rest l = all_point_well (map struct_of l.structs) l.at (map struct_of l.rest) ≡ all_point_well (map struct_of l.structs) l.at (map struct_of l.fn.ended)

abbrev pub decreases-loop-rest : goal.decreases-loop-rest
decreases-loop-rest l = length l.rest
