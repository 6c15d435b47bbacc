use Rattle.msp_routines.proofs.Good.{routines_can_be_laid_out as law}
use Rattle.msp_routines.proofs.laws.routines_can_be_laid_out.Goals as goal

pub returns : goal.returns
returns c = law
