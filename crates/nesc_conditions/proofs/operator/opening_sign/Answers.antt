use Rattle.nesc_conditions.specs.Signs.{opening_signs}
use Rattle.nesc_conditions.proofs.operator.opening_sign.Goals as goal

pub returns : goal.returns
unfolding opening_signs
returns c = c.look_up.ensures
