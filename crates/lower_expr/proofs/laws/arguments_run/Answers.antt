use Rattle.lower_expr.proofs.Exprs.{args_runs}
use Rattle.lower_expr.proofs.laws.arguments_run.Goals as goal

pub returns : goal.returns
returns c = λ codes f rest n p types checks spots base rank below calls es params r l pc end after env values frame fits calls_run le typed scalars ready s h next.
    args_runs codes f rest n p types checks spots base rank below calls fits calls_run es params r l pc end after env values frame le typed scalars ready s h next
