-- The worked rows, by computing.
use Rattle.std.proofs.Common.{refl}
use Rattle.nesc_tree.specs.Sorts.{sort, sign, keyword}
use Rattle.nesc_tree.specs.Reading.{phrase, read}
use Rattle.nesc_grammar.specs.Grammar.{infix_of, prefix_of, suffix_of, assignment_of, is_unsigned, is_const, length_of, is_signal, unique_expr}
use Rattle.nesc_grammar.specs.Rows.{WorkedRows}

pub rows : WorkedRows
unfolding phrase read sort sign keyword infix_of prefix_of suffix_of assignment_of is_unsigned is_const length_of is_signal unique_expr
rows = record {
  product_binds = refl;
  sums_group_left = refl;
  assignments_group_right = refl;
  choices_group_right = refl;
  comma_binds_least = refl;
  postfix_binds = refl;
  cast = refl;
  no_cast = refl;
  cast_to_pointer = refl;
  step_of_parens = refl;
  step_of_sum = refl;
  step_of_sign = refl;
  step_of_pointer = refl;
  step_of_size = refl;
  step_of_cast = refl;
  step_of_keyword_cast = refl;
  size_of_step_of_cast = refl;
  cast_behind_sign = refl;
  size_of_struct = refl;
  size_of_enum = refl;
  size_of_type = refl;
  size_of_element = refl;
  size_of_expression = refl;
  item_call = refl;
  member_call = refl;
  post = refl;
  link_is_no_comparison = refl;
  cast_is_not_assigned = refl;
  torn = refl;
  ended = refl;
  three_levels = refl;
  star_is_a_level = refl;
  two_are_too_few = refl;
}
