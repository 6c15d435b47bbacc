use Rattle.nesc_conditions.specs.Signs.{following_signs}
use Rattle.nesc_conditions.proofs.operator.following_sign.Goals as goal

pub returns : goal.returns
unfolding following_signs
returns c = c.look_up.ensures
