-- The bodies that a body calls, and programs whose calls have no cycle.
use Rattle.std.specs.Prelude.{◌≡◌, ℕ, ◌<◌, List, [], ◌∷◌, ◌++◌, length, Option, Some, None, slice_get}
use Rattle.std.specs.List.{All}
use Rattle.nesc_core.specs.Plain.{Expr, const, null, read, addr, un, bin, convert, offset, distance, both, either, choice, assign, update, call, post, port_in, port_out, comma, Exprs, no_exprs, more_exprs, Place, object, local, deref, index, field, Stmt, eval, block, branch, loop, switch, break, continue, return, atomic, clear, here, Stmts, no_stmts, more_stmts, Body, Program}

abbrev mutual
  pub expr_calls : Expr → List ℕ
  expr_calls (const t x) = []
  expr_calls null = []
  expr_calls (read place at) = place_calls place
  expr_calls (addr place) = place_calls place
  expr_calls (un op t e) = expr_calls e
  expr_calls (bin op t a b) = expr_calls a ++ expr_calls b
  expr_calls (convert t e) = expr_calls e
  expr_calls (offset a b n) = expr_calls a ++ expr_calls b
  expr_calls (distance a b n) = expr_calls a ++ expr_calls b
  expr_calls (both a b) = expr_calls a ++ expr_calls b
  expr_calls (either a b) = expr_calls a ++ expr_calls b
  expr_calls (choice a b c) = expr_calls a ++ expr_calls b ++ expr_calls c
  expr_calls (assign place e at) = place_calls place ++ expr_calls e
  expr_calls (update place op t e old at) = place_calls place ++ expr_calls e
  expr_calls (call f arguments at) = f ∷ exprs_calls arguments
  expr_calls (post k) = []
  expr_calls (port_in port) = []
  expr_calls (port_out port e) = expr_calls e
  expr_calls (comma a b) = expr_calls a ++ expr_calls b

  pub exprs_calls : Exprs → List ℕ
  exprs_calls no_exprs = []
  exprs_calls (more_exprs e rest) = expr_calls e ++ exprs_calls rest

  pub place_calls : Place → List ℕ
  place_calls (object k) = []
  place_calls (local k) = []
  place_calls (deref e t) = expr_calls e
  place_calls (index place e) = place_calls place ++ expr_calls e
  place_calls (field place k) = place_calls place

abbrev pub maybe_calls : Option Expr → List ℕ
maybe_calls None = []
maybe_calls (Some e) = expr_calls e

abbrev mutual
  pub stmt_calls : Stmt → List ℕ
  stmt_calls (eval e) = expr_calls e
  stmt_calls (block list) = stmts_calls list
  stmt_calls (branch e a b) = expr_calls e ++ stmt_calls a ++ stmt_calls b
  stmt_calls (loop first test step body) = expr_calls test ++ maybe_calls step ++ stmt_calls body
  stmt_calls (switch e cases list) = expr_calls e ++ stmts_calls list
  stmt_calls break = []
  stmt_calls continue = []
  stmt_calls (return e) = maybe_calls e
  stmt_calls (atomic s) = stmt_calls s
  stmt_calls (clear k) = []
  stmt_calls (here arguments first count body) = exprs_calls arguments ++ stmt_calls body

  pub stmts_calls : Stmts → List ℕ
  stmts_calls no_stmts = []
  stmts_calls (more_stmts s rest) = stmt_calls s ++ stmts_calls rest

-- each body has a rank, and calls bodies of lower ranks alone
pub record HasNoCycle (p : Program) : Type 0 where
  pub rank : ℕ → ℕ
  pub low : (f : ℕ) (b : Body) → slice_get p.bodies f ≡ Some b → rank f < length p.bodies
  pub falls : (f : ℕ) (b : Body) → slice_get p.bodies f ≡ Some b → All (λ g. rank g < rank f) (stmt_calls b.code)
