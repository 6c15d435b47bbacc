use Rattle.lower_stmt.proofs.Statements.{statement_runs}
use Rattle.lower_stmt.proofs.laws.statements_run.Goals as goal

pub returns : goal.returns
returns c = λ setting s exits w l pc end n after env values frame few may stands h next. (statement_runs setting s exits w l pc end may stands).by n after env values frame few h next
