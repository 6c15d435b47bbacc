use Rattle.std.proofs.Common.{◌≡◌, rules}
use Rattle.std.proofs.lemmas.List.{with_items_is}
use Rattle.std.proofs.lemmas.Result.{on_ok_weaker}
use Rattle.std.specs.Vec.{with_items}
use Rattle.core_act.proofs.Going.{as_goes, moves_goes, keep_goes}
use Rattle.core_act.proofs.run.perform_task.Goals as goal

pub returns-in-Second : goal.returns-in-Second
returns-in-Second c =
    on_ok_weaker c.second.result (λ h. as_goes c.in-Second.is (moves_goes c.args.m.now _ _ _ _ _ (h _ _ _)) c.requires) c.second.ensures

pub returns-in-Cond : goal.returns-in-Cond
returns-in-Cond c =
    on_ok_weaker c.choose_value.result (λ h. as_goes c.in-Cond.is (moves_goes c.args.m.now _ _ _ _ _ (h _ _ _)) c.requires) c.choose_value.ensures

pub returns-in-If : goal.returns-in-If
returns-in-If c =
    on_ok_weaker c.choose_statement.result (λ h. as_goes c.in-If.is (moves_goes c.args.m.now _ _ _ _ _ (h _ _ _)) c.requires) c.choose_statement.ensures

pub returns-in-Switch : goal.returns-in-Switch
returns-in-Switch c =
    on_ok_weaker c.choose_case.result (λ h. as_goes c.in-Switch.is (moves_goes c.args.m.now _ _ _ _ _ (h _ _ _)) c.requires) c.choose_case.ensures

pub returns-in-Rest : goal.returns-in-Rest
returns-in-Rest c =
    on_ok_weaker c.next_statement.result (λ h. as_goes c.in-Rest.is (moves_goes c.args.m.now _ _ _ _ _ (h _ _ _)) c.requires) c.next_statement.ensures

pub returns-in-Passed : goal.returns-in-Passed
returns-in-Passed c =
    on_ok_weaker c.take_argument.result (λ h. as_goes c.in-Passed.is (moves_goes c.args.m.now _ _ _ _ _ (h _ _ _)) c.requires) c.take_argument.ensures

pub returns-in-Keep : goal.returns-in-Keep
returns-in-Keep c =
    let is : (with_items c.args.m.now.locals c.keep.new.locals).items ≡ c.keep.new.locals = search (rules, with_items_is, c.deref_mut-in-Keep.ensures.len) in
    on_ok_weaker c.keep.result
    (λ h. as_goes c.in-Keep.is (keep_goes c.args.m.now c.in-Keep.place c.keep.new.flows (with_items c.args.m.now.locals c.keep.new.locals) c.deref_mut-in-Keep.result.now c.keep.new.locals h c.deref_mut-in-Keep.ensures.value is) c.requires) c.keep.ensures
