use Rattle.std.proofs.Common.{refl}
use Rattle.nesc_macros.proofs.rows.worked_rows.Goals as goal

-- src/rows.rt:6:1
pub returns : goal.returns
returns c = record {
  returned_name = refl;
  rescanned = refl;
  unclosed = refl;
  no_parenthesis = refl;
  each_names_the_other = refl;
  comma_in_parentheses = refl;
  empty = refl;
  too_few = refl;
  at_the_limit = refl;
  past_the_limit = refl;
}
