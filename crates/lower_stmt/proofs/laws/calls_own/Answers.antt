use Rattle.lower_stmt.proofs.OwnCalls.{own_calls}
use Rattle.lower_stmt.proofs.laws.calls_own.Goals as goal

pub returns : goal.returns
returns c = λ p checks b. own_calls p checks b
