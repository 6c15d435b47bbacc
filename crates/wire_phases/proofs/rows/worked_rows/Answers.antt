use Rattle.std.proofs.Common.{refl}
use Rattle.wire_instances.specs.Instances.{all_levels}
use Rattle.wire_phases.proofs.rows.worked_rows.Goals as goal

pub returns-clause-phases : goal.returns-clause-phases
unfolding all_levels
returns-clause-phases c = record {
  nothing_wrong = refl;
  unknown_component = refl;
  name_twice = refl;
  new_of_no_generic = refl;
  in_itself = refl;
  without_new = refl;
  element_twice = refl;
  unknown_interface = refl;
  interface_named = refl;
  told_late = refl;
  told_first = refl;
}

pub returns-clause-creation : goal.returns-clause-creation
unfolding all_levels
returns-clause-creation c = record {
  two_unknown = refl;
  twice_then_unknown = refl;
  unknown_then_twice = refl;
  new_then_unknown = refl;
  inner_first = refl;
  outer_first = refl;
  specification_first = refl;
  loop_then_unknown = refl;
  unknown_then_loop = refl;
  two_loops = refl;
  generic_application = refl;
}

pub returns-clause-wires : goal.returns-clause-wires
unfolding all_levels
returns-clause-wires c = record {
  unknown_then_mismatch = refl;
  mismatch_then_unknown = refl;
  behind_a_fine_one = refl;
  named_later = refl;
  two_left_out = refl;
  two_fit = refl;
  own_at_arrow = refl;
  no_own_at_equals = refl;
  own_with_a_dot = refl;
  outer_instance_first = refl;
  first_of_two_instances = refl;
  created_first = refl;
  inner_instance_last = refl;
  copies = refl;
}

pub returns-clause-facts : goal.returns-clause-facts
unfolding all_levels
returns-clause-facts c = record {
  bracket_then_mismatch = refl;
  mismatch_then_bracket = refl;
  name_before_bracket = refl;
  fit_before_bracket = refl;
  needless_before_value = refl;
  first_bracket = refl;
  first_in_text = refl;
  arguments_then_mismatch = refl;
  refused_then_mismatch = refl;
  mismatch_then_refused = refl;
}

pub returns-clause-copies : goal.returns-clause-copies
unfolding all_levels
returns-clause-copies c = λ t. record {
  blinks = refl;
}
