use Rattle.std.proofs.lemmas.Result.{on_ok_weaker}
use Rattle.core_act.proofs.Turning.{as_stage}
use Rattle.core_act.proofs.turns.repeat.Goals as goal

pub returns-in-Begins : goal.returns-in-Begins
returns-in-Begins c =
    on_ok_weaker c.begin_turn.result (λ h s. as_stage c.in-Begins.is (h s _ _)) c.begin_turn.ensures

pub returns-in-Tested : goal.returns-in-Tested
returns-in-Tested c =
    on_ok_weaker c.behind_test.result (λ h s. as_stage c.in-Tested.is (h s _ _)) c.behind_test.ensures

pub returns-in-Left : goal.returns-in-Left
returns-in-Left c =
    on_ok_weaker c.behind_body.result (λ h s. as_stage c.in-Left.is (h s _ _)) c.behind_body.ensures
