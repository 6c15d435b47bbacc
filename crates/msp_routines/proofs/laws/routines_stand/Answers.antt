use Rattle.msp_routines.proofs.Standing.{routines_stand as law}
use Rattle.msp_routines.proofs.laws.routines_stand.Goals as goal

pub returns : goal.returns
returns c = law
