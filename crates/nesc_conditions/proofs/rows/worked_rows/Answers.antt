use Rattle.std.specs.Prelude.{refl}
use Rattle.std.specs.Int.{int_wrap}
use Rattle.nesc_conditions.specs.Signs.{opening_signs, following_signs}
use Rattle.nesc_conditions.specs.Literals.{simple_escapes}
use Rattle.nesc_conditions.proofs.rows.worked_rows.Goals as goal

pub returns : goal.returns
unfolding opening_signs following_signs simple_escapes int_wrap
returns c = record {
  by_levels = refl;
  not_evaluated = refl;
  evaluated = refl;
  shift_of_all_bits = refl;
  shift_to_the_sign = refl;
  wraps = refl;
  signed_character = refl;
  right_associative = refl;
  unclosed = refl;
  left_associative = refl;
  complement = refl;
  negation = refl;
  word = refl;
  least_quotient_wraps = refl;
  comma_evaluates_both = refl;
  told = refl;
  no_name = refl;
}
