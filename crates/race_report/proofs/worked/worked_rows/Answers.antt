use Rattle.std.proofs.Common.{refl}
use Rattle.race_report.proofs.worked.worked_rows.Goals as goal

pub returns : goal.returns
returns c = record {
  two_fields = refl;
  array_through_two_pointers = refl;
  empty_array = refl;
  field_through_pointer = refl;
  other_type = refl;
  only_read = refl;
  norace = refl;
  no_handler_touches = refl;
  called_twice = refl;
  called_in_atomic = refl;
}
