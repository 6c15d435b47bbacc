use Rattle.elab_laws.proofs.WorkedState.{worked}
use Rattle.elab_laws.proofs.laws.worked_state.Goals as goal

pub returns : goal.returns
returns c = worked
