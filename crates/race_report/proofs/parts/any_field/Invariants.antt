use Rattle.std.proofs.Common.{◌≡◌, map, drop}
use Rattle.std.specs.List.{list_any}
use Rattle.nesc_core.specs.View.{field_of, type_of}
use Rattle.race_report.specs.Parts.{has_part, is_marked}
use Rattle.race_report.proofs.parts.any_field.Given as goal

abbrev pub invariant-loop-field : goal.invariant-loop-field
invariant-loop-field l =
    list_any (λ f. has_part (type_of l.wanted) (is_marked l.inside) f.ty) (map field_of (drop l.field-index l.fields))
    ≡ list_any (λ f. has_part (type_of l.wanted) (is_marked l.inside) f.ty) (map field_of l.fields)
