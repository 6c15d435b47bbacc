use Rattle.lower_pace.proofs.Weighed.{code_keeps_pace}
use Rattle.lower_pace.proofs.law.selected_code_keeps_pace.Goals as goal

pub returns : goal.returns
returns c = code_keeps_pace
