use Rattle.std.proofs.Common.{refl}
use Rattle.wire_instances.specs.Instances.{all_levels}
use Rattle.wire_uniques.proofs.rows.worked_rows.Goals as goal

pub returns : goal.returns
unfolding all_levels
returns c = λ t. record {
  three = λ e h. rw h refl;
  places = λ e h. rw h refl;
  by_text = refl;
  counts = refl;
  unused = refl;
  asked = refl;
  asked_only = refl;
  asked_and_used = refl;
  asked_beside = refl;
  numbered_beside = refl;
  from_the_right = λ a b h k. rw (h, k) refl;
  from_the_left = λ a b h k. rw (h, k) refl;
}
