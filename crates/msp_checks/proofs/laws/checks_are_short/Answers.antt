use Rattle.msp_checks.proofs.Laid.{checks_are_short as are_short}
use Rattle.msp_checks.proofs.laws.checks_are_short.Goals as goal

pub returns : goal.returns
returns c = are_short
