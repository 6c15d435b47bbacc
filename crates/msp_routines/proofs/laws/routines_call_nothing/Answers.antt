use Rattle.msp_routines.proofs.Good.{routines_call_nothing as law}
use Rattle.msp_routines.proofs.laws.routines_call_nothing.Goals as goal

pub returns : goal.returns
returns c = law
