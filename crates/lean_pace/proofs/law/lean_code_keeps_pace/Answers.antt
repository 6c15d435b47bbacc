use Rattle.lean_pace.proofs.Weighed.{code_keeps_pace}
use Rattle.lean_pace.proofs.law.lean_code_keeps_pace.Goals as goal

pub returns : goal.returns
returns c = code_keeps_pace
