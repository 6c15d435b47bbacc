-- Programs whose nodes weigh the code of their bodies (own): no call is inlined, whose locals are cleared without nodes of their own, and
-- no switch has more cases than statements that clear no local; each case of a program's text begins at an empty statement.
use Rattle.std.specs.Prelude.{⊤, ℕ, ◌+◌, ◌≤◌, length}
use Rattle.std.specs.List.{All}
use Rattle.nesc_core.specs.Plain.{Stmt, eval, block, branch, loop, switch, break, continue, return, atomic, clear, here, Stmts, no_stmts, more_stmts, Program}

-- a statement that clears a local, or another
abbrev pub works : Stmt → ℕ
works (clear x) = 0
works _ = 1

abbrev pub count_working : Stmts → ℕ
count_working no_stmts = 0
count_working (more_stmts s rest) = works s + count_working rest

abbrev mutual
  pub IsLeanStmt : Stmt → Type 0
  IsLeanStmt (eval e) = ⊤
  IsLeanStmt (block list) = AreLeanStmts list
  IsLeanStmt (branch test a b) = IsLeanStmt a × IsLeanStmt b
  IsLeanStmt (loop first test step body) = IsLeanStmt body
  IsLeanStmt (switch e cases list) = (length cases ≤ count_working list) × AreLeanStmts list
  IsLeanStmt break = ⊤
  IsLeanStmt continue = ⊤
  IsLeanStmt (return e) = ⊤
  IsLeanStmt (atomic s) = IsLeanStmt s
  IsLeanStmt (clear x) = ⊤
  IsLeanStmt (here arguments first count body) = ⊥

  pub AreLeanStmts : Stmts → Type 0
  AreLeanStmts no_stmts = ⊤
  AreLeanStmts (more_stmts s rest) = IsLeanStmt s × AreLeanStmts rest

pub record IsLean (p : Program) : Type 0 where
  pub bodies : All (λ b. IsLeanStmt b.code) p.bodies
