use Rattle.std.proofs.Common.{refl}
use Rattle.lower_stmt.proofs.rows.worked_rows.Goals as goal

pub returns : goal.returns
returns c = record {
  code = refl;
  break_ends_atomic = refl;
  falls_through = refl;
  default_chosen = refl;
  numbers = refl;
  turns = refl;
  continue_tests = refl;
  break_agrees = refl;
  return_ends_atomic = refl;
  inlined_alike = refl;
  arguments_passed = refl;
  arguments_inlined = refl;
  pointer_faults = refl;
  exits = refl;
  exits_agree = refl;
  cleared_row = refl;
  cleared_agree = refl;
  long_case = refl;
  no_case = refl;
  unreturned_row = refl;
  unreturned_agree = refl;
}
