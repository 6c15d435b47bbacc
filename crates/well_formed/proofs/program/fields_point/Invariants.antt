use Rattle.std.proofs.Common.{drop, map}
use Rattle.nesc_core.specs.View.{field_of, structs_of}
use Rattle.well_formed.specs.Formed.{FieldsPoint}
use Rattle.well_formed.proofs.program.fields_point.Given as goal

abbrev pub invariant-loop-field : goal.invariant-loop-field
invariant-loop-field l = FieldsPoint (structs_of l.s) (map field_of (drop l.field-index l.fields)) → FieldsPoint (structs_of l.s) (map field_of l.fields)
