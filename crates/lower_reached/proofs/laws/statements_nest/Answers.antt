use Rattle.lower_reached.proofs.Reached.{statements_nest}
use Rattle.lower_reached.proofs.laws.statements_nest.Goals as goal

pub returns : goal.returns
returns c = statements_nest
