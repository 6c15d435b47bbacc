use Rattle.lower_stmt.proofs.Weighed.{is_within}
use Rattle.lower_stmt.proofs.laws.frames_fit.Goals as goal

pub returns : goal.returns
returns c = λ p checks b. is_within p checks b
