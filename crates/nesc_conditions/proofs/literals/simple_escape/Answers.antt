use Rattle.nesc_conditions.specs.Literals.{simple_escapes}
use Rattle.nesc_conditions.proofs.literals.simple_escape.Goals as goal

pub returns : goal.returns
unfolding simple_escapes
returns c = c.look_up.ensures
