use Rattle.std.proofs.Common.{◌≡◌, ◌+◌, ◌++◌, IfOk, OnOk, subst, sym}
use Rattle.nm_base.specs.declared.int_type.IntType.{IntType}
use Rattle.nesc_core.specs.Plain.{Expr}
use Rattle.nesc_core.proofs.ViewLemmas.{expr_is-Read}
use Rattle.lower_expr.specs.Code.{labels}
use Rattle.expr_emitter.specs.Scoped.{expr_in, held_in}
use Rattle.expr_emitter.proofs.expressions.+emit.Goals as goal

pub emit_expr-returns-in-Read-clause-code : goal.emit_expr-returns-in-Read-clause-code
emit_expr-returns-in-Read-clause-code t c =
    subst (λ (x : Expr). OnOk c.emit_read.result (c.emit_read.new.code.items ≡ c.args.code.now.items ++ expr_in c.args.scope.now x c.args.r c.args.next.now)) (sym (expr_is-Read _ _ _ c.in-Read.is)) c.emit_read.ensures.code

pub emit_expr-returns-in-Read-clause-next : goal.emit_expr-returns-in-Read-clause-next
emit_expr-returns-in-Read-clause-next t c =
    subst (λ (x : Expr). OnOk c.emit_read.result (c.emit_read.new.next ≡ c.args.next.now + labels x)) (sym (expr_is-Read _ _ _ c.in-Read.is)) c.emit_read.ensures.next

pub emit_expr-returns-in-Read-clause-held : goal.emit_expr-returns-in-Read-clause-held
emit_expr-returns-in-Read-clause-held t c =
    subst (λ (x : Expr). IfOk c.emit_read.result (λ (u : IntType). u ≡ held_in c.args.scope.now x)) (sym (expr_is-Read _ _ _ c.in-Read.is)) c.emit_read.ensures.held
