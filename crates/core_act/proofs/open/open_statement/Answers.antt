use Rattle.std.proofs.Common.{◌∙◌, ap, sym, refl}
use Rattle.std.proofs.lemmas.Result.{on_ok_weaker}
use Rattle.nesc_core.specs.Plain as plain
use Rattle.nesc_core.specs.View.{case_of, expr_of, maybe_expr_of, stmt_of, stmts_of}
use Rattle.nesc_core.proofs.NodeLemmas.{stmt_of-Block, stmt_of-Switch}
use Rattle.nesc_core.proofs.ViewLemmas.{stmt_is-Eval, stmt_is-If, stmt_is-Loop, stmt_is-Atomic, stmt_is-Break, stmt_is-Continue, stmt_is-Clear}
use Rattle.core_act.proofs.Opening.{as_stmt, eval_opens, block_opens, if_opens, loop_opens, switch_opens, break_opens, continue_opens, atomic_opens, clear_opens}
use Rattle.core_act.proofs.open.open_statement.Goals as goal

pub returns-in-Eval : goal.returns-in-Eval
returns-in-Eval c =
    on_ok_weaker c.push_three.result (λ new. as_stmt (eval_opens _ _ _) (stmt_is-Eval _ _ c.in-Eval.is) new) c.push_three.ensures

pub returns-in-Block : goal.returns-in-Block
returns-in-Block c =
    on_ok_weaker c.push_two.result (λ new. as_stmt (block_opens _ _ _) (ap stmt_of c.in-Block.is ∙ stmt_of-Block _ ∙ ap (λ xs. plain.block (stmts_of xs)) (sym c.as_slice.ensures)) new) c.push_two.ensures

pub returns-in-If : goal.returns-in-If
returns-in-If c =
    on_ok_weaker c.push_two-in-If.result (λ new. as_stmt (if_opens _ _ _ _ _) (stmt_is-If _ _ _ _ c.in-If.is) new) c.push_two-in-If.ensures

pub returns-in-Loop : goal.returns-in-Loop
returns-in-Loop c =
    on_ok_weaker c.push.result (λ new. as_stmt (loop_opens _ _ _ _ refl) (stmt_is-Loop _ _ _ _ _ c.in-Loop.is ∙ ap (λ b. plain.loop c.in-Loop.first (expr_of c.in-Loop.test) (maybe_expr_of c.in-Loop.step) (stmt_of b)) (sym c.deref.ensures)) new) c.push.ensures

pub returns-in-Switch : goal.returns-in-Switch
returns-in-Switch c =
    on_ok_weaker c.push_three-in-Switch.result (λ new. as_stmt (switch_opens _ _ _ _ _) (ap stmt_of c.in-Switch.is ∙ stmt_of-Switch _ _ _) new) c.push_three-in-Switch.ensures

pub returns-in-Break : goal.returns-in-Break
returns-in-Break c =
    on_ok_weaker c.push-in-Break.result (λ new. as_stmt (break_opens _ _) (stmt_is-Break _ c.in-Break.is) new) c.push-in-Break.ensures

pub returns-in-Continue : goal.returns-in-Continue
returns-in-Continue c =
    on_ok_weaker c.push-in-Continue.result (λ new. as_stmt (continue_opens _ _) (stmt_is-Continue _ c.in-Continue.is) new) c.push-in-Continue.ensures

pub returns-in-Atomic : goal.returns-in-Atomic
returns-in-Atomic c =
    on_ok_weaker c.push_three-in-Atomic.result (λ new. as_stmt (atomic_opens _ _ _) (stmt_is-Atomic _ _ c.in-Atomic.is ∙ ap (λ b. plain.atomic (stmt_of b)) (sym c.deref-in-Atomic.ensures)) new) c.push_three-in-Atomic.ensures

pub returns-in-Clear : goal.returns-in-Clear
returns-in-Clear c =
    on_ok_weaker c.push_two-in-Clear.result (λ new. as_stmt (clear_opens _ _ _) (stmt_is-Clear _ _ c.in-Clear.is) new) c.push_two-in-Clear.ensures
