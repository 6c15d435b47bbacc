use Rattle.std.proofs.Common.{◌≡◌, ◌++◌, map, drop}
use Rattle.nesc_core.specs.View.{field_of}
use Rattle.program_meaning.specs.Modules.{field_as}
use Rattle.elab_told.specs.View.{met_of}
use Rattle.elab_told.proofs.structs.fields_as.Given as goal

abbrev pub invariant-loop-field : goal.invariant-loop-field
invariant-loop-field l = map field_of l.made.items ++ map (field_as (met_of l.met)) (map field_of (drop l.field-index l.fields)) ≡ map (field_as (met_of l.met)) (map field_of l.fields)
