-- Statements whose parts may stand there.
use Rattle.std.proofs.Common.{◌≡◌, ℕ, ℤ, suc, ◌<◌, List, [], ◌∷◌, Option, length, map, ap, sym, subst, ◌∙◌, refl, rules}
use Rattle.nesc_core.specs.declared.tree.CoreExpr.{CoreExpr}
use Rattle.nesc_core.specs.declared.tree.CoreStmt.{CoreStmt, Clear, Switch, the_lemmas}
use Rattle.nesc_core.specs.Plain.{Case, Ty, Program}
use Rattle.nesc_core.specs.Plain as plain
use Rattle.nesc_core.specs.Typing.{Has, IsNumber}
use Rattle.nesc_core.specs.View.{case_of, expr_of, stmt_of, stmts_of}
use Rattle.nesc_core.specs.WellFormed.{AreStmts, Exits, IsStmt, count_stmts, in_switch}
use Rattle.well_formed.specs.Formed.{Each}
use Rattle.well_formed.proofs.Each.{each_is}
use Rattle.well_formed.proofs.Switches.{switch_is}

pub counted : (list : List CoreStmt) → count_stmts (stmts_of list) ≡ length list
counted [] = refl
counted (s ∷ rest) = ap suc (counted rest)

pub may_switch : (p : Program) (types : List Ty) (exits : Exits) (s : CoreStmt) (e : CoreExpr) (cases : List (Option ℤ × ℕ)) (list : List CoreStmt)
    → s ≡ Switch e cases list → IsNumber (Has p types (expr_of e)) → Each (λ (c : Case). c.start < count_stmts (stmts_of list)) (map case_of cases)
    → AreStmts p types (stmts_of list) (in_switch exits) → IsStmt p types (stmt_of s) exits
may_switch p types exits s e cases list is number start stmts =
    subst (λ x. IsStmt p types x exits) (sym (switch_is s e cases list is))
    (number, each_is (λ (c : Case). c.start < count_stmts (stmts_of list)) (map case_of cases) start, stmts)

clear_is : (s : CoreStmt) (x : ℕ) → s ≡ Clear x → stmt_of s ≡ plain.clear x
clear_is s x is = ap stmt_of is ∙ search (rules, the_lemmas)

pub may_clear : (p : Program) (types : List Ty) (exits : Exits) (s : CoreStmt) (x : ℕ) → s ≡ Clear x → x < length types → IsStmt p types (stmt_of s) exits
may_clear p types exits s x is inside = subst (λ y. IsStmt p types y exits) (sym (clear_is s x is)) inside
