-- The cases and the locals of inlined calls, of lists of trees.
use Rattle.std.proofs.Common.{◌≡◌, ℕ, ℤ, ◌+◌, List, [], ◌∷◌, Option, length, map, sum_by, ap, ◌∙◌, sym, refl, rules}
use Rattle.std.proofs.lemmas.List.{length-map}
use Rattle.std.proofs.lemmas.List.Sums.{sum_by-cons}
use Rattle.nesc_core.specs.declared.tree.CoreExpr.{CoreExpr}
use Rattle.nesc_core.specs.declared.tree.CoreStmt.{CoreStmt, Switch, the_lemmas}
use Rattle.nesc_core.specs.declared.tree.Body.{Body}
use Rattle.nesc_core.specs.Plain as plain
use Rattle.nesc_core.specs.View.{body_of, case_of, expr_of, stmt_of, stmts_of}
use Rattle.lower_form.specs.Short.{body_extras, stmt_extras, stmts_extras}

switch_is : (s : CoreStmt) (e : CoreExpr) (cases : List (Option ℤ × ℕ)) (list : List CoreStmt) → s ≡ Switch e cases list
    → stmt_of s ≡ plain.switch (expr_of e) (map case_of cases) (stmts_of list)
switch_is s e cases list is = ap stmt_of is ∙ search (rules, the_lemmas)

pub extras_switch : (s : CoreStmt) (e : CoreExpr) (cases : List (Option ℤ × ℕ)) (list : List CoreStmt) → s ≡ Switch e cases list
    → stmt_extras (stmt_of s) ≡ length cases + stmts_extras (stmts_of list)
extras_switch s e cases list is =
    ap stmt_extras (switch_is s e cases list is) ∙ ap (λ n. n + stmts_extras (stmts_of list)) (length-map cases case_of)

pub bodies_extras : (bs : List Body) → sum_by body_extras (map body_of bs) ≡ sum_by (λ (b : Body). stmt_extras (stmt_of b.code)) bs
bodies_extras [] = refl
bodies_extras (b ∷ bs) =
    sum_by-cons body_extras (body_of b) (map body_of bs) ∙ ap (λ k. stmt_extras (stmt_of b.code) + k) (bodies_extras bs)
    ∙ sym (sum_by-cons (λ (x : Body). stmt_extras (stmt_of x.code)) b bs)
