use Rattle.msp_checks.proofs.Laid.{checks_are_routines as are_routines}
use Rattle.msp_checks.proofs.laws.checks_are_routines.Goals as goal

pub returns : goal.returns
returns c = are_routines
