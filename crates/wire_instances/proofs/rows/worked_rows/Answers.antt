use Rattle.std.proofs.Common.{refl}
use Rattle.wire_instances.specs.Instances.{all_levels}
use Rattle.wire_instances.proofs.rows.worked_rows.Goals as goal

pub returns : goal.returns
unfolding all_levels
returns c = record {
  blinks = refl;
  most = refl;
  too_many = refl;
  too_many_at_a_line = refl;
  in_a_ring = refl;
  loops = refl;
  first_of_two = refl;
  second_of_two = refl;
  specification = refl;
  without_new = refl;
  needless_new = refl;
  generic_application = refl;
}
