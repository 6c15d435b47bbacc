use Rattle.msp_select.proofs.law.laid_code_stands.Goals as goal
use Rattle.msp_select.proofs.Laid.{laid_code_stands as stands}

pub returns : goal.returns
returns c = stands
