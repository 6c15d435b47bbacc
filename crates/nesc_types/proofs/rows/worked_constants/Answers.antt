use Rattle.std.proofs.Common.{refl}
use Rattle.std.specs.Int.{int_wrap}
use Rattle.nesc_conditions.specs.Literals.{simple_escapes}
use Rattle.nesc_types.proofs.rows.worked_constants.Goals as goal

pub returns : goal.returns
unfolding simple_escapes int_wrap
returns c = record {
  numbers = refl;
  open_in_c = refl;
  types = refl;
  zero_divisors = refl;
  bad_types = refl;
  unknown_names = refl;
  first_refusals = refl;
  no_constants = refl;
}
