use Rattle.std.proofs.Common.{refl}
use Rattle.mid_code.proofs.rows.worked_rows.Goals as goal

pub returns : goal.returns
returns c = record {
  sum_wraps = refl;
  difference_wraps = refl;
  carried = refl;
  not_carried = refl;
  borrowed = refl;
  not_borrowed = refl;
  minus_one_below = refl;
  greatest_not_below = refl;
  at_most_itself = refl;
  unsigned_at_most = refl;
  same = refl;
  other = refl;
  product = refl;
  wide_product = refl;
  product_lost = refl;
  byte_product = refl;
  quotient = refl;
  remainder = refl;
  unsigned_quotient = refl;
  byte_quotient = refl;
  unsigned_byte_quotient = refl;
  wide_quotient = refl;
  wide_unsigned_quotient = refl;
  least_quotient = refl;
  least_remainder = refl;
  wide_least_quotient = refl;
  left = refl;
  left_by_width = refl;
  wide_left = refl;
  right = refl;
  right_by_more = refl;
  unsigned_right_by_more = refl;
  wide_right = refl;
  helped_wide = refl;
  is_a_part = refl;
  behind_the_parts = refl;
  between_parts = refl;
  calls = refl;
  waits = refl;
}
