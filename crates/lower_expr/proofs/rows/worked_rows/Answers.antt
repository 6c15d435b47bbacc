use Rattle.std.proofs.Common.{refl}
use Rattle.lower_expr.proofs.rows.worked_rows.Goals as goal

pub returns : goal.returns
returns c = record {
  numbers = refl;
  numbers_agree = refl;
  old_then_new = refl;
  low_half_first = refl;
  half_answered = refl;
  pointer_faults = refl;
  index_faults = refl;
  divisor_faults = refl;
  byte_of_field = refl;
  padding = refl;
  post_answered = refl;
  elements_between = refl;
  long_row = refl;
  long_numbers_agree = refl;
  frame_row = refl;
  frame_agrees = refl;
  updated_row = refl;
  updated_agrees = refl;
  stepping_row = refl;
  stepping_agrees = refl;
  wrong_part = refl;
  call_row = refl;
  call_agrees = refl;
}
