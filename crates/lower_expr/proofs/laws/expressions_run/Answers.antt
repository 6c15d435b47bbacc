use Rattle.lower_expr.proofs.Exprs.{expr_runs}
use Rattle.lower_expr.proofs.laws.expressions_run.Goals as goal

pub returns : goal.returns
returns c = λ codes f rest n p types checks spots base rank below calls e ty r l pc end after env values frame fits calls_run le typed ready s h next.
    expr_runs codes f rest n p types checks spots base rank below calls fits calls_run e ty r l pc end after env values frame le typed ready s h next
