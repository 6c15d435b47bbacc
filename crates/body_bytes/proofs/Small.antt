-- Calls whose only argument is a constant of 8 bits: 96 bytes less than their two nodes weigh are enough for them.
use Rattle.std.proofs.Common.{ℕ, ◌+◌, ◌≤◌, Bool, true, false, Option, Some, None, arith}
use Rattle.std.specs.Prelude.{if◌then◌else◌}
use Rattle.nm_base.specs.declared.int_type.IntType.TheVariants.{U8}
use Rattle.nesc_core.specs.Plain.{Expr, const, null, read, addr, un, bin, convert, offset, distance, both, either, choice, assign, update, call, post, port_in, port_out, comma, Exprs, no_exprs, more_exprs, Place, object, local, deref, index, field, Stmt, eval, block, branch, loop, switch, break, continue, return, atomic, clear, here, Stmts, no_stmts, more_stmts}

abbrev pub is_byte : Expr → Bool
is_byte (const U8 x) = true
is_byte _ = false

abbrev pub alone : Bool → Exprs → ℕ
alone byte no_exprs = if byte then 1 else 0
alone byte (more_exprs e rest) = 0

-- 1 where a call with these arguments is a small one
abbrev pub small_one : Exprs → ℕ
small_one no_exprs = 0
small_one (more_exprs e rest) = alone (is_byte e) rest

pub one_at_most : (b : Bool) → (if b then 1 else 0) ≤ 1
one_at_most true = omega arith
one_at_most false = omega arith

-- ---- how many there are

abbrev mutual
  pub small_calls : Expr → ℕ
  small_calls (const t x) = 0
  small_calls null = 0
  small_calls (read place at) = place_small place
  small_calls (addr place) = place_small place
  small_calls (un op t e) = small_calls e
  small_calls (bin op t a b) = small_calls a + small_calls b
  small_calls (convert t e) = small_calls e
  small_calls (offset a b n) = small_calls a + small_calls b
  small_calls (distance a b n) = small_calls a + small_calls b
  small_calls (both a b) = small_calls a + small_calls b
  small_calls (either a b) = small_calls a + small_calls b
  small_calls (choice a b c) = small_calls a + small_calls b + small_calls c
  small_calls (assign place e at) = place_small place + small_calls e
  small_calls (update place op t e old at) = place_small place + small_calls e
  small_calls (call f arguments at) = small_one arguments + exprs_small arguments
  small_calls (post k) = 0
  small_calls (port_in port) = 0
  small_calls (port_out port e) = small_calls e
  small_calls (comma a b) = small_calls a + small_calls b

  pub exprs_small : Exprs → ℕ
  exprs_small no_exprs = 0
  exprs_small (more_exprs e rest) = small_calls e + exprs_small rest

  pub place_small : Place → ℕ
  place_small (object k) = 0
  place_small (local x) = 0
  place_small (deref e t) = small_calls e
  place_small (index place e) = place_small place + small_calls e
  place_small (field place k) = place_small place

abbrev pub maybe_small : Option Expr → ℕ
maybe_small None = 0
maybe_small (Some e) = small_calls e

abbrev mutual
  pub stmt_small : Stmt → ℕ
  stmt_small (eval e) = small_calls e
  stmt_small (block list) = stmts_small list
  stmt_small (branch test a b) = small_calls test + stmt_small a + stmt_small b
  stmt_small (loop first test step body) = small_calls test + maybe_small step + stmt_small body
  stmt_small (switch e cases list) = small_calls e + stmts_small list
  stmt_small break = 0
  stmt_small continue = 0
  stmt_small (return e) = maybe_small e
  stmt_small (atomic s) = stmt_small s
  stmt_small (clear x) = 0
  stmt_small (here arguments first count body) = exprs_small arguments + stmt_small body

  pub stmts_small : Stmts → ℕ
  stmts_small no_stmts = 0
  stmts_small (more_stmts s rest) = stmt_small s + stmts_small rest
