use Rattle.body_bytes.proofs.Bodies.{are_small}
use Rattle.body_bytes.proofs.laws.bodies_are_small.Goals as goal

pub returns : goal.returns
returns c = are_small
