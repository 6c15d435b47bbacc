use Rattle.std.proofs.Common.{refl}
use Rattle.wire_instances.specs.Instances.{all_levels}
use Rattle.wire_units.proofs.rows.worked_rows.Goals as goal

pub returns : goal.returns
unfolding all_levels
returns c = λ t. record {
  blinks = refl;
  one = refl;
  component_for_interface = refl;
  interface_for_component = refl;
  component_twice = refl;
  alias_twice = refl;
  two_names = refl;
  element_twice = refl;
  other_names = refl;
  item_twice = refl;
  needless_argument = refl;
  arguments_first = refl;
  parameter_and_element = refl;
  two_faults = refl;
  loops = refl;
}
