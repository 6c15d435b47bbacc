-- How many trees a list has.
use Rattle.std.proofs.Common.{◌≡◌, suc, List, [], ◌∷◌, length, refl, ap}
use Rattle.nesc_core.specs.declared.tree.CoreExpr.{CoreExpr}
use Rattle.nesc_core.specs.declared.tree.CoreStmt.{CoreStmt}
use Rattle.nesc_core.specs.View.{exprs_of, stmts_of}
use Rattle.nesc_core.specs.WellFormed.{count_exprs, count_stmts}

pub counted_stmts : (ss : List CoreStmt) → count_stmts (stmts_of ss) ≡ length ss
counted_stmts [] = refl
counted_stmts (s ∷ ss) = ap suc (counted_stmts ss)

pub counted_exprs : (es : List CoreExpr) → count_exprs (exprs_of es) ≡ length es
counted_exprs [] = refl
counted_exprs (e ∷ es) = ap suc (counted_exprs es)
