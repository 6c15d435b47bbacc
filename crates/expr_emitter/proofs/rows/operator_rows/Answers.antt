use Rattle.std.proofs.Common.{refl}
use Rattle.expr_emitter.proofs.rows.operator_rows.Goals as goal

pub returns : goal.returns
returns c = record {
  sums = refl;
  differences = refl;
  products = refl;
  quotients = refl;
  remainders = refl;
  ands = refl;
  ors = refl;
  exclusive_ors = refl;
  equal = refl;
  unequal = refl;
  less = refl;
  at_most = refl;
  left_shifts = refl;
  right_shifts = refl;
  conversions = refl;
  on_one_number = refl;
}
