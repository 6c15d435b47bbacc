use Rattle.std.proofs.Common.{ap, refl}
use Rattle.std.proofs.lemmas.Result.{on_ok_weaker}
use Rattle.nesc_core.specs.View.{maybe_expr_of}
use Rattle.core_act.proofs.Opening.{as_step, step_none_opens, step_some_opens}
use Rattle.core_act.proofs.turns.step.Goals as goal

pub returns-in-None : goal.returns-in-None
returns-in-None c = λ s. as_step (step_none_opens s _) (ap maybe_expr_of c.in-None.is) refl

pub returns-in-Some : goal.returns-in-Some
returns-in-Some c =
    on_ok_weaker c.push_two.result (λ new s. as_step (step_some_opens s _ _) (ap maybe_expr_of c.in-Some.is) new) c.push_two.ensures
