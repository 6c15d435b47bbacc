-- Types in the order in which they are met.
use Rattle.std.proofs.Common.{◌≡◌, ℕ, zero, suc, ◌+◌, ◌<◌, ◌≤◌, List, [], ◌∷◌, ◌++◌, drop, get_or, length, map, refl, sym, ap, ◌∙◌, arith}
use Rattle.std.specs.Prelude.{if◌then◌else◌}
use Rattle.std.specs.List.{flat_map, list_any}
use Rattle.nesc_core.specs.declared.tree.CoreExpr.{CoreExpr}
use Rattle.nesc_core.specs.declared.tree.CoreStmt.{CoreStmt}
use Rattle.nesc_core.specs.declared.tree.Body as tree_body
use Rattle.nesc_core.specs.Derefs.{expr_derefs, exprs_derefs, stmt_derefs, stmts_derefs}
use Rattle.nesc_core.specs.Nodes.{exprs_nodes_of, stmts_nodes_of}
use Rattle.nesc_core.specs.Plain.{Ty}
use Rattle.nesc_core.specs.Parts.{same_type}
use Rattle.nesc_core.specs.View.{body_of, expr_of, exprs_of, stmt_of, stmts_of}
use Rattle.lower_stmt.specs.Bodies.{in_order}

-- those of one list, then those of the other
pub in_order_append : (seen a b : List Ty) → in_order seen (a ++ b) ≡ in_order (in_order seen a) b
in_order_append seen [] b = refl
in_order_append seen (t ∷ a) b = in_order_append (if list_any (λ u. same_type u t) seen then seen else seen ++ t ∷ []) a b

-- those of the trees from one place on are those of that tree, then those behind it
pub args_step : (seen : List Ty) (es : List CoreExpr) (i : ℕ) (e : CoreExpr) → i < length es → e ≡ get_or es i e
    → in_order seen (exprs_derefs (exprs_of (drop i es))) ≡ in_order (in_order seen (expr_derefs (expr_of e))) (exprs_derefs (exprs_of (drop (i + 1) es)))
args_step seen [] i e lt is = absurd (omega arith)
args_step seen (x ∷ es) zero e lt is =
    in_order_append seen (expr_derefs (expr_of x)) (exprs_derefs (exprs_of es)) ∙ ap (λ y. in_order (in_order seen (expr_derefs (expr_of y))) (exprs_derefs (exprs_of es))) (sym is)
args_step seen (x ∷ es) (suc i) e lt is =
    let k : suc (i + 1) ≡ suc i + 1 = omega arith in
    args_step seen es i e (omega arith) is ∙ ap (λ m. in_order (in_order seen (expr_derefs (expr_of e))) (exprs_derefs (exprs_of (drop m (x ∷ es))))) k

pub stmts_step : (seen : List Ty) (ss : List CoreStmt) (i : ℕ) (s : CoreStmt) → i < length ss → s ≡ get_or ss i s
    → in_order seen (stmts_derefs (stmts_of (drop i ss))) ≡ in_order (in_order seen (stmt_derefs (stmt_of s))) (stmts_derefs (stmts_of (drop (i + 1) ss)))
stmts_step seen [] i s lt is = absurd (omega arith)
stmts_step seen (x ∷ ss) zero s lt is =
    in_order_append seen (stmt_derefs (stmt_of x)) (stmts_derefs (stmts_of ss)) ∙ ap (λ y. in_order (in_order seen (stmt_derefs (stmt_of y))) (stmts_derefs (stmts_of ss))) (sym is)
stmts_step seen (x ∷ ss) (suc i) s lt is =
    let k : suc (i + 1) ≡ suc i + 1 = omega arith in
    stmts_step seen ss i s (omega arith) is ∙ ap (λ m. in_order (in_order seen (stmt_derefs (stmt_of s))) (stmts_derefs (stmts_of (drop m (x ∷ ss))))) k

pub bodies_step : (seen : List Ty) (bs : List tree_body.Body) (i : ℕ) (b : tree_body.Body) → i < length bs → b ≡ get_or bs i b
    → in_order seen (flat_map (λ x. stmt_derefs x.code) (map body_of (drop i bs))) ≡ in_order (in_order seen (stmt_derefs (stmt_of b.code))) (flat_map (λ x. stmt_derefs x.code) (map body_of (drop (i + 1) bs)))
bodies_step seen [] i b lt is = absurd (omega arith)
bodies_step seen (x ∷ bs) zero b lt is =
    in_order_append seen (stmt_derefs (stmt_of x.code)) (flat_map (λ y. stmt_derefs y.code) (map body_of bs))
    ∙ ap (λ (y : tree_body.Body). in_order (in_order seen (stmt_derefs (stmt_of y.code))) (flat_map (λ z. stmt_derefs z.code) (map body_of bs))) (sym is)
bodies_step seen (x ∷ bs) (suc i) b lt is =
    let k : suc (i + 1) ≡ suc i + 1 = omega arith in
    bodies_step seen bs i b (omega arith) is ∙ ap (λ m. in_order (in_order seen (stmt_derefs (stmt_of b.code))) (flat_map (λ y. stmt_derefs y.code) (map body_of (drop m (x ∷ bs))))) k

pub args_less : (es : List CoreExpr) (n : ℕ) → exprs_nodes_of (exprs_of (drop n es)) ≤ exprs_nodes_of (exprs_of es)
args_less es zero = omega arith
args_less [] (suc n) = omega arith
args_less (e ∷ es) (suc n) = let h = args_less es n in omega (arith, h)

pub stmts_less : (ss : List CoreStmt) (n : ℕ) → stmts_nodes_of (stmts_of (drop n ss)) ≤ stmts_nodes_of (stmts_of ss)
stmts_less ss zero = omega arith
stmts_less [] (suc n) = omega arith
stmts_less (s ∷ ss) (suc n) = let h = stmts_less ss n in omega (arith, h)
