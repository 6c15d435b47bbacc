use Rattle.nesc_conditions.proofs.Resolving.{resolution_holds}
use Rattle.nesc_conditions.proofs.rows.resolution.Goals as goal

pub returns : goal.returns
returns c = resolution_holds
