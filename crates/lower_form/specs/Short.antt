-- Programs of which labels, checks and places in lowered code are numbers of 32 bits (own).
use Rattle.std.specs.Prelude.{ℕ, ◌+◌, ◌<◌, ◌≤◌, ◌^◌, length, sum_by}
use Rattle.std.specs.List.{All}
use Rattle.nesc_core.specs.Plain.{Stmt, block, branch, loop, switch, atomic, here, Stmts, no_stmts, more_stmts, Body, Program}
use Rattle.nesc_core.specs.Nodes.{nodes_of}
use Rattle.lower_stmt.specs.Bodies.{checks_of}
use Rattle.lower_stmt.specs.Code.{stmt_labels}
use Rattle.lower_form.specs.declared.short.TheConstants.{MOST_EXTRAS, MOST_NODES}

-- the cases of switches, and the locals of inlined calls: they take code, and are no nodes
abbrev mutual
  pub stmt_extras : Stmt → ℕ
  stmt_extras (block list) = stmts_extras list
  stmt_extras (branch test a b) = stmt_extras a + stmt_extras b
  stmt_extras (loop first test step body) = stmt_extras body
  stmt_extras (switch e cases list) = length cases + stmts_extras list
  stmt_extras (atomic s) = stmt_extras s
  stmt_extras (here arguments first count body) = count + stmt_extras body
  stmt_extras _ = 0

  pub stmts_extras : Stmts → ℕ
  stmts_extras no_stmts = 0
  stmts_extras (more_stmts s rest) = stmt_extras s + stmts_extras rest

abbrev pub body_extras : Body → ℕ
body_extras b = stmt_extras b.code

abbrev pub extras_of : Program → ℕ
extras_of p = sum_by body_extras p.bodies

pub record IsShort (p : Program) : Type 0 where
  pub nodes : nodes_of p ≤ MOST_NODES
  pub extras : extras_of p ≤ MOST_EXTRAS

-- the labels of each body, and the checks, can be counted in 32 bits
pub record IsNumbered (p : Program) : Type 0 where
  pub labels : All (λ b. stmt_labels b.code < 2 ^ 32) p.bodies
  pub checks : length (checks_of p) < 2 ^ 31
