use Rattle.msp_runtime.proofs.Numbers.{routines_are_routines as are_routines}
use Rattle.msp_runtime.proofs.laws.routines_are_routines.Goals as goal

pub returns : goal.returns
returns c = are_routines
