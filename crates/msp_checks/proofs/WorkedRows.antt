-- Each row is the same by computation.
use Rattle.std.proofs.Common.{refl}
use Rattle.msp_checks.specs.Rows.{WorkedRows}

pub worked_rows : WorkedRows
worked_rows = record {
  none = refl;
  first_byte = refl;
  last_byte = refl;
  below_bytes = refl;
  above_bytes = refl;
  last_word = refl;
  odd_word = refl;
  above_words = refl;
  run_of_none = refl;
  later_run = refl;
  second_struct = refl;
  in_a_struct = refl;
  behind_structs = refl;
  other_remainder = refl;
  odd_struct = refl;
  null = refl;
  sizeless = refl;
  weight_of_none = refl;
  weight_of_two = refl;
}
