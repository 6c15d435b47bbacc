use Rattle.std.proofs.Common.{drop, map}
use Rattle.nesc_core.specs.Typing.{IsType}
use Rattle.nesc_core.specs.Plain.{Object}
use Rattle.nesc_core.specs.Weights.{objects_start}
use Rattle.nesc_core.specs.WellFormed.{LieFrom}
use Rattle.nesc_core.specs.View.{object_of, program_of}
use Rattle.well_formed.specs.Formed.{Each}
use Rattle.well_formed.proofs.program.objects_lie.Given as goal

abbrev pub invariant-loop-object : goal.invariant-loop-object
invariant-loop-object l = record {
  types : Each (λ (o : Object). IsType (program_of l.p).structs o.ty) (map object_of (drop l.object-index l.object-items)) → Each (λ (o : Object). IsType (program_of l.p).structs o.ty) (map object_of l.object-items);
  addresses : LieFrom (program_of l.p).structs l.end (map object_of (drop l.object-index l.object-items)) → LieFrom (program_of l.p).structs objects_start (map object_of l.object-items);
}
