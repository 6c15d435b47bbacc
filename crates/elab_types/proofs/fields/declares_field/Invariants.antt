use Rattle.std.proofs.Common.{◌≡◌, map, drop}
use Rattle.nesc_core.specs.View.{field_of}
use Rattle.elab_meaning.specs.Scope.{has_field}
use Rattle.elab_types.proofs.fields.declares_field.Given as goal

abbrev pub invariant-loop-field : goal.invariant-loop-field
invariant-loop-field l = has_field (map field_of (drop l.field-index l.fields)) l.name ≡ has_field (map field_of l.fields) l.name
