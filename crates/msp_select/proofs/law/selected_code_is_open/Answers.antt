use Rattle.msp_select.proofs.law.selected_code_is_open.Goals as goal
use Rattle.msp_select.proofs.Selected.{selected}

pub returns : goal.returns
returns c = selected
