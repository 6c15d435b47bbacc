-- Lean programs are measured.
use Rattle.std.proofs.Common.{◌≤◌, List, [], ◌∷◌, arith}
use Rattle.std.specs.List.{All}
use Rattle.std.proofs.lemmas.List.Elements.{All-cons, All-head, All-nil, All-tail}
use Rattle.nesc_core.specs.Plain.{Ty, Stmt, eval, block, branch, loop, switch, break, continue, return, atomic, clear, here, Stmts, no_stmts, more_stmts, Body, Program}
use Rattle.nesc_core.specs.WellFormed.{count_stmts}
use Rattle.lower_pace.specs.Pace.{AreMeasuredStmts, IsMeasuredStmt}
use Rattle.lean_pace.specs.Lean.{AreLeanStmts, IsLeanStmt, count_working, works}
use Rattle.lean_pace.specs.Pace.{LeanIsMeasured}

works_once : (s : Stmt) → works s ≤ 1
works_once (eval e) = omega arith
works_once (block list) = omega arith
works_once (branch test a b) = omega arith
works_once (loop first test step body) = omega arith
works_once (switch e cases list) = omega arith
works_once break = omega arith
works_once continue = omega arith
works_once (return e) = omega arith
works_once (atomic s) = omega arith
works_once (clear x) = omega arith
works_once (here arguments first count body) = omega arith

pub working_few : (list : Stmts) → count_working list ≤ count_stmts list
working_few no_stmts = omega arith
working_few (more_stmts s rest) = let h = works_once s in let g = working_few rest in omega (arith, h, g)

module _ (p : Program) (types : List Ty) where
  mutual
    measured : (s : Stmt) → IsLeanStmt s → IsMeasuredStmt p types s
    measured (eval e) few = tt
    measured (block list) few = all_measured list few
    measured (branch test a b) few = (measured a few.0, measured b few.1)
    measured (loop first test step body) few = measured body few
    measured (switch e cases list) few = ((let h = few.0 in let g = working_few list in omega (arith, h, g)), all_measured list few.1)
    measured break few = tt
    measured continue few = tt
    measured (return e) few = tt
    measured (atomic s) few = measured s few
    measured (clear x) few = tt
    measured (here arguments first count body) few = absurd few

    all_measured : (list : Stmts) → AreLeanStmts list → AreMeasuredStmts p types list
    all_measured no_stmts few = tt
    all_measured (more_stmts s rest) few = (measured s few.0, all_measured rest few.1)

module _ (p : Program) where
  abbrev Lean : Body → Type 0
  Lean b = IsLeanStmt b.code

  abbrev Measured : Body → Type 0
  Measured b = IsMeasuredStmt p b.locals b.code

  each_measured : (bs : List Body) → All Lean bs → All Measured bs
  each_measured [] h = All-nil Measured
  each_measured (b ∷ bs) h = All-cons Measured b bs (measured p b.locals b.code (All-head Lean b bs h)) (each_measured bs (All-tail Lean b bs h))

pub lean_is_measured : LeanIsMeasured
lean_is_measured p lean = record { bodies = each_measured p p.bodies lean.bodies }
