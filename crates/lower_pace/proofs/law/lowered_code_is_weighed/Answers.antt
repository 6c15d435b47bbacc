use Rattle.lower_pace.proofs.Weighed.{code_is_weighed}
use Rattle.lower_pace.proofs.law.lowered_code_is_weighed.Goals as goal

pub returns : goal.returns
returns c = code_is_weighed
