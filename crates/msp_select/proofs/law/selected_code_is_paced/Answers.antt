use Rattle.msp_select.proofs.law.selected_code_is_paced.Goals as goal
use Rattle.msp_select.proofs.Weighing.{paced}

pub returns : goal.returns
returns c = paced
