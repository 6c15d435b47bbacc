use Rattle.std.proofs.Common.{◌≡◌, ◌≤◌, drop, fold, length, map}
use Rattle.nesc_core.specs.Layouts.{at}
use Rattle.nesc_core.specs.Size.{fields_layout, type_layout, with_field}
use Rattle.nesc_core.specs.View.{field_of}
use Rattle.nesc_core.specs.Plain.{Field}
use Rattle.well_formed.specs.Laid.{AreSmall, NameBelow}
use Rattle.well_formed.proofs.layouts.made.Given as goal

abbrev pub invariant-loop-field : goal.invariant-loop-field
invariant-loop-field l = record {
  names : NameBelow (length l.fn.layouts) (map field_of (drop l.field-index l.fields)) → NameBelow (length l.fn.layouts) (map field_of l.fields);
  bytes : AreSmall l.fn.layouts (map field_of (drop l.field-index l.fields)) → AreSmall l.fn.layouts (map field_of l.fields);
  layout : fold with_field l.done (map (λ (f : Field). type_layout (at l.fn.layouts) f.ty) (map field_of (drop l.field-index l.fields)))
      ≡ fields_layout (map (λ (f : Field). type_layout (at l.fn.layouts) f.ty) (map field_of l.fields));
  small : l.done.size ≤ 32767;
}
