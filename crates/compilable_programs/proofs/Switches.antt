-- Lean statements are measured, whatever program and body they stand in.
use Rattle.std.proofs.Common.{◌≡◌, ℕ, ℤ, ◌≤◌, List, [], ◌∷◌, Option, length, map, ap, sym, subst, ◌∙◌, rules, arith, All}
use Rattle.std.proofs.lemmas.List.{length-map}
use Rattle.nesc_core.specs.declared.tree.CoreExpr.{CoreExpr}
use Rattle.nesc_core.specs.declared.tree.CoreStmt.{CoreStmt, Switch, the_lemmas}
use Rattle.nesc_core.specs.Plain.{Ty, Stmt, eval, block, branch, loop, switch, break, continue, return, atomic, clear, here, Stmts, no_stmts, more_stmts, Body, Program}
use Rattle.nesc_core.specs.View.{case_of, expr_of, stmt_of, stmts_of}
use Rattle.nesc_core.specs.WellFormed.{count_stmts}
use Rattle.lower_pace.specs.Pace.{AreMeasuredStmts, IsMeasured, IsMeasuredStmt}
use Rattle.well_formed.specs.Formed.{Each}
use Rattle.well_formed.proofs.Each.{each_is}
use Rattle.lean_pace.specs.Lean.{AreLeanStmts, IsLean, IsLeanStmt, count_working, works}

switch_is : (s : CoreStmt) (e : CoreExpr) (cases : List (Option ℤ × ℕ)) (list : List CoreStmt) → s ≡ Switch e cases list
    → stmt_of s ≡ switch (expr_of e) (map case_of cases) (stmts_of list)
switch_is s e cases list is = ap stmt_of is ∙ search (rules, the_lemmas)

pub lean_switch : (s : CoreStmt) (e : CoreExpr) (cases : List (Option ℤ × ℕ)) (list : List CoreStmt) → s ≡ Switch e cases list
    → length cases ≤ count_working (stmts_of list) → AreLeanStmts (stmts_of list) → IsLeanStmt (stmt_of s)
lean_switch s e cases list is few stmts =
    subst IsLeanStmt (sym (switch_is s e cases list is)) ((let same = length-map cases case_of in omega (arith, same, few)), stmts)

works_once : (s : Stmt) → works s ≤ 1
works_once (eval e) = omega arith
works_once (block list) = omega arith
works_once (branch test a b) = omega arith
works_once (loop first test step body) = omega arith
works_once (switch e cases list) = omega arith
works_once break = omega arith
works_once continue = omega arith
works_once (return e) = omega arith
works_once (atomic s) = omega arith
works_once (clear x) = omega arith
works_once (here arguments first count body) = omega arith

working_few : (list : Stmts) → count_working list ≤ count_stmts list
working_few no_stmts = omega arith
working_few (more_stmts s rest) = let h = works_once s in let g = working_few rest in omega (arith, h, g)

module _ (p : Program) (types : List Ty) where
  mutual
    measured : (s : Stmt) → IsLeanStmt s → IsMeasuredStmt p types s
    measured (eval e) few = tt
    measured (block list) few = all_measured list few
    measured (branch test a b) few = (measured a few.0, measured b few.1)
    measured (loop first test step body) few = measured body few
    measured (switch e cases list) few = ((let h = few.0 in let g = working_few list in omega (arith, h, g)), all_measured list few.1)
    measured break few = tt
    measured continue few = tt
    measured (return e) few = tt
    measured (atomic s) few = measured s few
    measured (clear x) few = tt
    measured (here arguments first count body) few = absurd few

    all_measured : (list : Stmts) → AreLeanStmts list → AreMeasuredStmts p types list
    all_measured no_stmts few = tt
    all_measured (more_stmts s rest) few = (measured s few.0, all_measured rest few.1)

-- the bodies of a program
bodies_measured : (p : Program) (bs : List Body) → Each (λ (b : Body). IsLeanStmt b.code) bs → All (λ (b : Body). IsMeasuredStmt p b.locals b.code) bs
bodies_measured p bs few = each_is (λ (b : Body). IsMeasuredStmt p b.locals b.code) bs (each bs few)
  where
    each : (bs : List Body) → Each (λ (b : Body). IsLeanStmt b.code) bs → Each (λ (b : Body). IsMeasuredStmt p b.locals b.code) bs
    each [] few = tt
    each (b ∷ bs) few = (measured p b.locals b.code few.0, each bs few.1)

pub measured_program : (p : Program) → Each (λ (b : Body). IsLeanStmt b.code) p.bodies → IsMeasured p
measured_program p few = record { bodies = bodies_measured p p.bodies few }

pub lean_program : (p : Program) → Each (λ (b : Body). IsLeanStmt b.code) p.bodies → IsLean p
lean_program p few = record { bodies = each_is (λ (b : Body). IsLeanStmt b.code) p.bodies few }
