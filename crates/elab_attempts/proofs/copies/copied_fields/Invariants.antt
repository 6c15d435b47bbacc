use Rattle.std.proofs.Common.{◌≡◌, map, take}
use Rattle.nesc_core.specs.View.{field_of}
use Rattle.elab_attempts.proofs.copies.copied_fields.Given as goal

abbrev pub invariant-loop-field : goal.invariant-loop-field
invariant-loop-field l = map field_of l.copies.items ≡ map field_of (take l.field-index l.fields)
