-- Rows by computation.
use Rattle.std.proofs.Common.{refl}
use Rattle.msp_runtime.specs.Rows.{WorkedRows}

pub worked_rows : WorkedRows
worked_rows = record {
  product = refl;
  left = refl;
  left_out = refl;
  right = refl;
  right_sign = refl;
  right_out = refl;
  quotient = refl;
  remainder = refl;
  towards_zero = refl;
  sign_of_dividend = refl;
  not_of_divisor = refl;
  least = refl;
  byte_least = refl;
  byte_right = refl;
  byte_product = refl;
  wide_product = refl;
  wide_product_high = refl;
  wide_right = refl;
  wide_quotient = refl;
  wide_remainder = refl;
  wide_remainder_high = refl;
  wide_least = refl;
}
