use Rattle.msp_select.proofs.Turning.{lone_return_gives_back as gives_back}
use Rattle.msp_select.proofs.law.lone_return_gives_back.Goals as goal

pub returns : goal.returns
returns c = gives_back
