use Rattle.std.proofs.Common.{ap}
use Rattle.std.proofs.lemmas.Result.{on_ok_weaker}
use Rattle.nesc_core.specs.Plain as plain
use Rattle.nesc_core.specs.View.{maybe_expr_of}
use Rattle.core_act.proofs.Opening.{as_stmt, return_none_opens, return_some_opens}
use Rattle.core_act.proofs.open.open_return.Goals as goal

pub returns-in-None : goal.returns-in-None
returns-in-None c =
    on_ok_weaker c.push.result (λ new s. as_stmt (return_none_opens s _) (ap (λ e. plain.return (maybe_expr_of e)) c.in-None.is) new) c.push.ensures

pub returns-in-Some : goal.returns-in-Some
returns-in-Some c =
    on_ok_weaker c.push_two.result (λ new s. as_stmt (return_some_opens s _ _) (ap (λ e. plain.return (maybe_expr_of e)) c.in-Some.is) new) c.push_two.ensures
