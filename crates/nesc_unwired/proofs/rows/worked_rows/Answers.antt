use Rattle.std.proofs.Common.{refl}
use Rattle.std.specs.Int.{int_wrap}
use Rattle.elab_meaning.specs.Wired.{valued, argument, measured, size_of}
use Rattle.nesc_unwired.proofs.rows.worked_rows.Goals as goal

pub returns-clause-brackets : goal.returns-clause-brackets
unfolding int_wrap valued argument measured size_of
returns-clause-brackets c = record {
  par = refl;
  par_with_default = refl;
  wrapped_to_a_byte = refl;
  header_constant = refl;
  local_hides_it = refl;
  hidden_behind_alone = refl;
  inner_block_ends = refl;
  in_the_inner_block = refl;
  in_its_own_initialiser = refl;
  parameter_hides_it = refl;
  bracket_parameter_hides_it = refl;
  variable_of_the_module = refl;
  function_of_the_module = refl;
  declared_in_the_module = refl;
  another_value = refl;
  declared_in_the_body = refl;
  refused_declaration = refl;
  no_constant_needs_a_default = refl;
  zero_divisor = refl;
  size_of_a_type = refl;
  size_of_a_local = refl;
}

pub returns-clause-order : goal.returns-clause-order
unfolding int_wrap valued argument measured size_of
returns-clause-order c = record {
  outer_before_inner = refl;
  in_a_bracket = refl;
  body_before_its_test = refl;
  test_before_its_body = refl;
  in_the_loop = refl;
  behind_the_loop = refl;
  a_result = refl;
  two_functions = refl;
  an_initial_value = refl;
  unknown_element = refl;
  unknown_item = refl;
  no_bracket_where_one_is_due = refl;
  signalled_as_an_event = refl;
  called_without_a_wire = refl;
  signalled_without_a_wire = refl;
}

pub returns-clause-items : goal.returns-clause-items
unfolding int_wrap valued argument measured size_of
returns-clause-items c = record {
  event_of_a_used_interface = refl;
  command_of_a_provided_one = refl;
  not_those_that_come_out = refl;
  the_specification_first = refl;
  of_the_wrong_kind = refl;
  a_default_is_none = refl;
  a_prototype_is_none = refl;
  another_item = refl;
}
