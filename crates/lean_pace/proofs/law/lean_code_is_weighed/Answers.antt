use Rattle.lean_pace.proofs.Weighed.{code_is_weighed}
use Rattle.lean_pace.proofs.law.lean_code_is_weighed.Goals as goal

pub returns : goal.returns
returns c = code_is_weighed
