-- Expressions that are evaluated one after the other, as statements.
use Rattle.std.proofs.Common.{◌≡◌, List, [], ◌∷◌, map, ap, ◌∙◌, refl, rules}
use Rattle.nesc_core.specs.declared.tree.CoreExpr as core_expr
use Rattle.nesc_core.specs.declared.tree.CoreStmt as core_stmt
use Rattle.nesc_core.specs.Plain as core
use Rattle.nesc_core.specs.View.{expr_of, stmt_of}

eval_is : (e : core_expr.CoreExpr) → stmt_of (core_stmt.Eval e) ≡ core.eval (expr_of e)
eval_is e = search (rules, core_stmt.the_lemmas)

all_evals : (es : List core_expr.CoreExpr) → map stmt_of (map (λ e. core_stmt.Eval e) es) ≡ map (λ x. core.eval x) (map expr_of es)
all_evals [] = refl
all_evals (e ∷ es) =
    ap (λ (x : core.Stmt). x ∷ map stmt_of (map (λ e. core_stmt.Eval e) es)) (eval_is e)
    ∙ ap (λ (xs : List core.Stmt). core.eval (expr_of e) ∷ xs) (all_evals es)

pub evals_are : (es : List core_expr.CoreExpr) (xs : List core_stmt.CoreStmt) → xs ≡ map (λ e. core_stmt.Eval e) es → map stmt_of xs ≡ map (λ x. core.eval x) (map expr_of es)
evals_are es xs is = ap (λ (ys : List core_stmt.CoreStmt). map stmt_of ys) is ∙ all_evals es

pub ruleset evals = (evals_are)
