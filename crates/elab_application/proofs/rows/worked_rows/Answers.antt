use Rattle.std.proofs.Common.{refl}
use Rattle.elab_application.proofs.rows.worked_rows.Goals as goal

pub returns-clause-ends : goal.returns-clause-ends
returns-clause-ends c = record {
  calls_end = refl;
  signals_end = refl;
  one_call = refl;
  one_signal = refl;
  equal_wires = refl;
  two_signals = refl;
  with_three = refl;
  with_five = refl;
  with_seven = refl;
  with_others = refl;
  with_four = refl;
  all_passed = refl;
}

pub returns-clause-values : goal.returns-clause-values
returns-clause-values c = record {
  values = refl;
  within_four = refl;
  without_parameter = refl;
  of_named = refl;
  of_passed = refl;
  eight_bits = refl;
  sixteen_bits = refl;
  no_parameter = refl;
}

pub returns-clause-given : goal.returns-clause-given
returns-clause-given c = record {
  both = refl;
  newest = refl;
  no_argument = refl;
  none = refl;
  generic = refl;
  single = refl;
}
