use Rattle.std.proofs.Common.{refl}
use Rattle.wire_pairs.proofs.rows.worked_rows.Goals as goal

pub returns-clause-linked : goal.returns-clause-linked
returns-clause-linked c = record {
  fan_is = refl;
  par_is = refl;
  five_is = refl;
  arrow = refl;
  left_out = refl;
  by_arguments = refl;
  provided = refl;
  provided_behind = refl;
  used = refl;
  both_own = refl;
  passed = refl;
  fixed = refl;
  fixed_first = refl;
}

pub returns-clause-refused : goal.returns-clause-refused
returns-clause-refused c = record {
  no_component = refl;
  no_element = refl;
  own_element_dot = refl;
  later_name = refl;
  two_provided = refl;
  turned_round = refl;
  other_interface = refl;
  other_arguments = refl;
  two_fit = refl;
  none_fits = refl;
  two_left_out = refl;
  own_at_arrow = refl;
  no_own_at_equals = refl;
  provided_and_used = refl;
  needless_bracket = refl;
  free_at_one = refl;
  fixed_at_one = refl;
  too_great = refl;
  negative = refl;
  second_in_text = refl;
  no_value = refl;
  fit_first = refl;
  first_line = refl;
  arguments = refl;
}

pub returns-clause-instances : goal.returns-clause-instances
returns-clause-instances c = record {
  boots = refl;
  boot_with_parameter = refl;
  generic = refl;
}
