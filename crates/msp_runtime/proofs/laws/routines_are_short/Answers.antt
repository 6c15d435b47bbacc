use Rattle.msp_runtime.proofs.Short.{routines_are_short as are_short}
use Rattle.msp_runtime.proofs.laws.routines_are_short.Goals as goal

pub returns : goal.returns
returns c = are_short
