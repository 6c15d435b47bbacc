use Rattle.std.proofs.Common.{drop, map}
use Rattle.nesc_core.specs.View.{field_of, structs_of}
use Rattle.well_formed.specs.Formed.{Each, FieldsPoint}
use Rattle.well_formed.proofs.program.structs_point.Given as goal

abbrev pub invariant-loop-fields : goal.invariant-loop-fields
invariant-loop-fields l = Each (FieldsPoint (structs_of l.s)) (map (map field_of) (drop l.fields-index l.fields-items)) → Each (FieldsPoint (structs_of l.s)) (map (map field_of) l.fields-items)
