use Rattle.source_laws.proofs.Orderly.{bodies_are_orderly}
use Rattle.source_laws.proofs.laws.bodies_are_orderly.Goals as goal

pub returns : goal.returns
returns c = bodies_are_orderly
