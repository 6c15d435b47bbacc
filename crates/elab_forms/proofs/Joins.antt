-- Lists of expressions behind each other.
use Rattle.std.proofs.Common.{◌≡◌, List, [], ◌∷◌, ◌++◌, ap, refl}
use Rattle.nesc_core.specs.declared.tree.CoreExpr as rust_expr
use Rattle.nesc_core.specs.View.{expr_of, exprs_of}
use Rattle.nesc_core.specs.Plain.{more_exprs}
use Rattle.elab_meaning.specs.Wired.{join_exprs}

pub exprs_of-append : (xs ys : List rust_expr.CoreExpr) → exprs_of (xs ++ ys) ≡ join_exprs (exprs_of xs) (exprs_of ys)
exprs_of-append [] ys = refl
exprs_of-append (x ∷ xs) ys = ap (more_exprs (expr_of x)) (exprs_of-append xs ys)

pub ruleset joins = (exprs_of-append)
