-- The worked rows, by computing.
use Rattle.std.proofs.Common.{refl}
use Rattle.nesc_print_words.specs.Rows.{ExpressionRows, TypeRows}
use Rattle.nesc_print_words.proofs.rows.worked_rows.Goals as goal

expressions : ExpressionRows
expressions = record {
  groups_left = refl;
  right_sum = refl;
  product_in_sum = refl;
  sum_in_product = refl;
  shift_in_sum = refl;
  equality = refl;
  bits = refl;
  bits_in_test = refl;
  logical = refl;
  assignments = refl;
  left_assignment = refl;
  assigned_pointer = refl;
  assigned_cast = refl;
  choices = refl;
  choice_of_choice = refl;
  comma_in_choice = refl;
  commas = refl;
  choice_in_assignment = refl;
  signs = refl;
  sign_of_sum = refl;
  sum_of_sign = refl;
  sign_of_cast = refl;
  step_of_sign = refl;
  step_of_cast = refl;
  cast_of_cast = refl;
  cast_of_sum = refl;
  product_of_cast = refl;
  step_behind = refl;
  step_behind_sign = refl;
  element = refl;
  element_of_cast = refl;
  members = refl;
  member_of_pointer = refl;
  call = refl;
  call_of_none = refl;
  size = refl;
  size_of_element = refl;
  size_of_cast = refl;
  size_of_type = refl;
  item_call = refl;
  item_signal = refl;
  ports = refl;
  unique = refl;
  unique_count = refl;
  post = refl;
  nothing = refl;
  kinds = refl;
}

types : TypeRows
types = record {
  integers = refl;
  unsigned = refl;
  long = refl;
  nothing = refl;
  tagged = refl;
  fields = refl;
  constants = refl;
  enum = refl;
}

pub returns : goal.returns
returns c = (
  expressions,
  types,
  λ e s h k. (
    record {
      choice = rw h refl;
      choice_of_two = rw h refl;
      loop = rw h refl;
      loop_with_test_behind = rw h refl;
      endless = refl;
      counted = rw h refl;
      own_variable = rw (h, k) refl;
      cases = rw h refl;
      atomic = rw h refl;
      type = rw k refl;
      norace = rw k refl;
    },
    record {
      typedef = rw k refl;
      attribute = rw h refl;
      parameters = rw k refl;
      prototype = rw k refl;
      body = rw k refl;
      task = rw k refl;
      bracket = rw k refl;
      item = rw k refl;
    },
    record {
      command = rw k refl;
      interface = refl;
      plain_interface = rw k refl;
      element = refl;
      named_element = rw k refl;
      generic = rw k refl;
      component = refl;
      new_component = refl;
      link = rw h refl;
      equate = refl;
      generic_module = refl;
      configuration = refl;
    },
  ),
)
