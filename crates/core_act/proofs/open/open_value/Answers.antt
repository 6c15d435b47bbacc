use Rattle.std.proofs.Common.{◌≡◌, ◌∙◌, ◌∷◌, List, Global, Box, ℕ, ap, sym, refl, rules, w64, to_z, of_z}
use Rattle.std.proofs.lemmas.Result.{on_ok_weaker}
use Rattle.nesc_core.specs.declared.tree.CoreExpr.{CoreExpr}
use Rattle.nesc_core.specs.Plain as plain
use Rattle.nesc_core.specs.View.{expr_of, exprs_of, place_of}
use Rattle.nesc_core.proofs.NodeLemmas.{expr_of-Call}
use Rattle.nesc_core.proofs.ViewLemmas.{expr_is-Const, expr_is-Null, expr_is-Read, expr_is-Addr, expr_is-Un, expr_is-Bin, expr_is-Convert, expr_is-Offset, expr_is-Distance, expr_is-And, expr_is-Or, expr_is-Cond, expr_is-Assign, expr_is-Update, expr_is-Post, expr_is-In, expr_is-Out, expr_is-Comma}
use Rattle.core_act.specs.declared.task.Task.TheVariants as task
use Rattle.core_act.specs.declared.task.Operation.TheVariants as operation
use Rattle.core_act.proofs.Opening.{as_value, const_opens, null_opens, read_opens, addr_opens, un_opens, bin_opens, convert_opens, offset_opens, distance_opens, and_opens, or_opens, cond_opens, assign_opens, update_opens, call_opens, post_opens, in_opens, out_opens, comma_opens}
use Rattle.core_act.proofs.open.open_value.Goals as goal

pub returns-in-Const : goal.returns-in-Const
returns-in-Const c =
    let back : to_z w64 (of_z w64 c.in-Const.x) ≡ c.in-Const.x = search rules in
    on_ok_weaker c.push.result (λ new s. as_value (const_opens s _ _ _) (expr_is-Const _ _ _ c.in-Const.is) (new ∙ ap (λ x. task.Operate (operation.Give x) ∷ c.args.tasks.now) back)) c.push.ensures

pub returns-in-Null : goal.returns-in-Null
returns-in-Null c =
    on_ok_weaker c.push-in-Null.result (λ new s. as_value (null_opens s _) (expr_is-Null _ c.in-Null.is) new) c.push-in-Null.ensures

pub returns-in-Read : goal.returns-in-Read
returns-in-Read c =
    on_ok_weaker c.push_two.result (λ new s. as_value (read_opens s _ _ c.in-Read.field-1) (expr_is-Read _ _ _ c.in-Read.is) new) c.push_two.ensures

pub returns-in-Addr : goal.returns-in-Addr
returns-in-Addr c =
    on_ok_weaker c.push_two-in-Addr.result (λ new s. as_value (addr_opens s _ _) (expr_is-Addr _ _ c.in-Addr.is) new) c.push_two-in-Addr.ensures

pub returns-in-Un : goal.returns-in-Un
returns-in-Un c =
    on_ok_weaker c.operand.result (λ new s. as_value (un_opens s _ _ _ _) (expr_is-Un _ _ _ _ c.in-Un.is ∙ ap (λ a. plain.un c.in-Un.op c.in-Un.t (expr_of a)) (sym c.deref.ensures)) new) c.operand.ensures

pub returns-in-Bin : goal.returns-in-Bin
returns-in-Bin c =
    on_ok_weaker c.operands.result (λ new s. as_value (bin_opens s _ _ _ _ _) (expr_is-Bin _ _ _ _ _ c.in-Bin.is ∙ (λ j. plain.bin c.in-Bin.op c.in-Bin.t (expr_of (sym c.deref-in-Bin.ensures j)) (expr_of (sym c.deref-in-Bin-2.ensures j)))) new) c.operands.ensures

pub returns-in-Convert : goal.returns-in-Convert
returns-in-Convert c =
    on_ok_weaker c.operand-in-Convert.result (λ new s. as_value (convert_opens s _ _ _) (expr_is-Convert _ _ _ c.in-Convert.is ∙ ap (λ a. plain.convert c.in-Convert.t (expr_of a)) (sym c.deref-in-Convert.ensures)) new) c.operand-in-Convert.ensures

pub returns-in-Offset : goal.returns-in-Offset
returns-in-Offset c =
    on_ok_weaker c.operands-in-Offset.result (λ new s. as_value (offset_opens s _ _ _ _) (expr_is-Offset _ _ _ _ c.in-Offset.is ∙ (λ j. plain.offset (expr_of (sym c.deref-in-Offset.ensures j)) (expr_of (sym c.deref-in-Offset-2.ensures j)) c.in-Offset.size)) new) c.operands-in-Offset.ensures

pub returns-in-Distance : goal.returns-in-Distance
returns-in-Distance c =
    on_ok_weaker c.operands-in-Distance.result (λ new s. as_value (distance_opens s _ _ _ _) (expr_is-Distance _ _ _ _ c.in-Distance.is ∙ (λ j. plain.distance (expr_of (sym c.deref-in-Distance.ensures j)) (expr_of (sym c.deref-in-Distance-2.ensures j)) c.in-Distance.size)) new) c.operands-in-Distance.ensures

pub returns-in-And : goal.returns-in-And
returns-in-And c =
    on_ok_weaker c.push_two-in-And.result (λ new s. as_value (and_opens s _ _ _) (expr_is-And _ _ _ c.in-And.is ∙ (λ j. plain.both (expr_of (sym c.deref-in-And.ensures j)) (expr_of (sym c.deref-in-And-2.ensures j)))) new) c.push_two-in-And.ensures

pub returns-in-Or : goal.returns-in-Or
returns-in-Or c =
    on_ok_weaker c.push_two-in-Or.result (λ new s. as_value (or_opens s _ _ _) (expr_is-Or _ _ _ c.in-Or.is ∙ (λ j. plain.either (expr_of (sym c.deref-in-Or.ensures j)) (expr_of (sym c.deref-in-Or-2.ensures j)))) new) c.push_two-in-Or.ensures

pub returns-in-Cond : goal.returns-in-Cond
returns-in-Cond c =
    on_ok_weaker c.push_two-in-Cond.result (λ new s. as_value (cond_opens s _ _ _ _) (expr_is-Cond _ _ _ _ c.in-Cond.is ∙ (λ j. plain.choice (expr_of (sym c.deref-in-Cond.ensures j)) (expr_of (sym c.deref-in-Cond-2.ensures j)) (expr_of (sym c.deref-in-Cond-3.ensures j)))) new) c.push_two-in-Cond.ensures

pub returns-in-Assign : goal.returns-in-Assign
returns-in-Assign c =
    on_ok_weaker c.push_three.result (λ new s. as_value (assign_opens s _ _ _ c.in-Assign.field-2) (expr_is-Assign _ _ _ _ c.in-Assign.is ∙ ap (λ a. plain.assign (place_of c.in-Assign.place) (expr_of a) c.in-Assign.field-2) (sym c.deref-in-Assign.ensures)) new) c.push_three.ensures

pub returns-in-Update : goal.returns-in-Update
returns-in-Update c =
    on_ok_weaker c.update.result (λ new s. as_value (update_opens s _ _ _ _ c.in-Update.field-5) (expr_is-Update _ _ _ _ _ _ _ c.in-Update.is ∙ ap (λ a. plain.update (place_of c.in-Update.place) c.in-Update.op c.in-Update.t (expr_of a) c.in-Update.gives_old c.in-Update.field-5) (sym c.deref-in-Update.ensures)) new) c.update.ensures

pub returns-in-Call : goal.returns-in-Call
returns-in-Call c =
    on_ok_weaker c.push-in-Call.result (λ new s. as_value (call_opens s _ _ c.in-Call.f c.in-Call.field-2 refl c.new.ensures.items) (ap expr_of c.in-Call.is ∙ expr_of-Call _ _ _ ∙ ap (λ es. plain.call c.in-Call.f (exprs_of es) c.in-Call.field-2) (sym c.as_slice.ensures)) new) c.push-in-Call.ensures

pub returns-in-Post : goal.returns-in-Post
returns-in-Post c =
    on_ok_weaker c.push_two-in-Post.result (λ new s. as_value (post_opens s _ _) (expr_is-Post _ _ c.in-Post.is) new) c.push_two-in-Post.ensures

pub returns-in-In : goal.returns-in-In
returns-in-In c =
    on_ok_weaker c.push-in-In.result (λ new s. as_value (in_opens s _ _) (expr_is-In _ _ c.in-In.is) new) c.push-in-In.ensures

pub returns-in-Out : goal.returns-in-Out
returns-in-Out c =
    on_ok_weaker c.operand-in-Out.result (λ new s. as_value (out_opens s _ _ _) (expr_is-Out _ _ _ c.in-Out.is ∙ ap (λ a. plain.port_out c.in-Out.port (expr_of a)) (sym c.deref-in-Out.ensures)) new) c.operand-in-Out.ensures

pub returns-in-Comma : goal.returns-in-Comma
returns-in-Comma c =
    on_ok_weaker c.push_three-in-Comma.result (λ new s. as_value (comma_opens s _ _ _) (expr_is-Comma _ _ _ c.in-Comma.is ∙ (λ j. plain.comma (expr_of (sym c.deref-in-Comma.ensures j)) (expr_of (sym c.deref-in-Comma-2.ensures j)))) new) c.push_three-in-Comma.ensures
