-- The accesses and calls of a body (own, after the race rule of Gay et al. 2003). Nodes are numbered in each body from 0, a parent
-- before its parts, the parts from left to right.
use Rattle.std.specs.Prelude.{ℕ, ◌+◌, ◌≤◌, Bool, true, false, List, [], ◌∷◌, ◌++◌, Option, Some, None, slice_get}
use Rattle.nm_base.specs.declared.pos.Pos.{Pos}
use Rattle.nesc_core.specs.Plain.{Expr, const, null, read, addr, un, bin, convert, offset, distance, both, either, choice, assign, update, call, post, port_in, port_out, comma, Exprs, no_exprs, more_exprs, Place, object, local, deref, index, field, Stmt, eval, block, branch, loop, switch, break, continue, return, atomic, clear, here, Stmts, no_stmts, more_stmts, Body, Program}
use Rattle.nesc_core.specs.Nodes.{expr_nodes_of, exprs_nodes_of, place_nodes_of, maybe_nodes_of, stmt_nodes_of}

-- a node of a body, and whether it lies in an atomic statement of it
pub data Use : Type 0 where
  -- a Read, an Assign or an Update
  Access : (node : ℕ) (is_inside : Bool) → Place → Pos → Use
  Calls : (node : ℕ) (is_inside : Bool) → (callee : ℕ) → Pos → Use

abbrev mutual
  pub expr_uses : (node : ℕ) (is_inside : Bool) → Expr → List Use
  expr_uses n i (const t x) = []
  expr_uses n i null = []
  expr_uses n i (read place pos) = Access n i place pos ∷ place_uses (n + 1) i place
  expr_uses n i (addr place) = place_uses (n + 1) i place
  expr_uses n i (un op t e) = expr_uses (n + 1) i e
  expr_uses n i (bin op t a b) = expr_uses (n + 1) i a ++ expr_uses (n + 1 + expr_nodes_of a) i b
  expr_uses n i (convert t e) = expr_uses (n + 1) i e
  expr_uses n i (offset a b size) = expr_uses (n + 1) i a ++ expr_uses (n + 1 + expr_nodes_of a) i b
  expr_uses n i (distance a b size) = expr_uses (n + 1) i a ++ expr_uses (n + 1 + expr_nodes_of a) i b
  expr_uses n i (both a b) = expr_uses (n + 1) i a ++ expr_uses (n + 1 + expr_nodes_of a) i b
  expr_uses n i (either a b) = expr_uses (n + 1) i a ++ expr_uses (n + 1 + expr_nodes_of a) i b
  expr_uses n i (choice a b c) =
      expr_uses (n + 1) i a ++ (expr_uses (n + 1 + expr_nodes_of a) i b ++ expr_uses (n + 1 + expr_nodes_of a + expr_nodes_of b) i c)
  expr_uses n i (assign place e pos) = Access n i place pos ∷ (place_uses (n + 1) i place ++ expr_uses (n + 1 + place_nodes_of place) i e)
  expr_uses n i (update place op t e old pos) =
      Access n i place pos ∷ (place_uses (n + 1) i place ++ expr_uses (n + 1 + place_nodes_of place) i e)
  expr_uses n i (call f args pos) = Calls n i f pos ∷ exprs_uses (n + 1) i args
  expr_uses n i (post k) = []
  expr_uses n i (port_in port) = []
  expr_uses n i (port_out port e) = expr_uses (n + 1) i e
  expr_uses n i (comma a b) = expr_uses (n + 1) i a ++ expr_uses (n + 1 + expr_nodes_of a) i b

  pub exprs_uses : (node : ℕ) (is_inside : Bool) → Exprs → List Use
  exprs_uses n i no_exprs = []
  exprs_uses n i (more_exprs e es) = expr_uses n i e ++ exprs_uses (n + expr_nodes_of e) i es

  pub place_uses : (node : ℕ) (is_inside : Bool) → Place → List Use
  place_uses n i (object k) = []
  place_uses n i (local x) = []
  place_uses n i (deref e t) = expr_uses (n + 1) i e
  place_uses n i (index place e) = place_uses (n + 1) i place ++ expr_uses (n + 1 + place_nodes_of place) i e
  place_uses n i (field place k) = place_uses (n + 1) i place

abbrev pub maybe_uses : (node : ℕ) (is_inside : Bool) → Option Expr → List Use
maybe_uses n i None = []
maybe_uses n i (Some e) = expr_uses n i e

abbrev mutual
  pub stmt_uses : (node : ℕ) (is_inside : Bool) → Stmt → List Use
  stmt_uses n i (eval e) = expr_uses (n + 1) i e
  stmt_uses n i (block list) = stmts_uses (n + 1) i list
  stmt_uses n i (branch e a b) =
      expr_uses (n + 1) i e ++ (stmt_uses (n + 1 + expr_nodes_of e) i a ++ stmt_uses (n + 1 + expr_nodes_of e + stmt_nodes_of a) i b)
  stmt_uses n i (loop first test step body) =
      expr_uses (n + 1) i test
      ++ (maybe_uses (n + 1 + expr_nodes_of test) i step ++ stmt_uses (n + 1 + expr_nodes_of test + maybe_nodes_of step) i body)
  stmt_uses n i (switch e cases list) = expr_uses (n + 1) i e ++ stmts_uses (n + 1 + expr_nodes_of e) i list
  stmt_uses n i break = []
  stmt_uses n i continue = []
  stmt_uses n i (return e) = maybe_uses (n + 1) i e
  stmt_uses n i (atomic s) = stmt_uses (n + 1) true s
  stmt_uses n i (clear k) = []
  stmt_uses n i (here args first count body) = exprs_uses (n + 1) i args ++ stmt_uses (n + 1 + exprs_nodes_of args) i body

  pub stmts_uses : (node : ℕ) (is_inside : Bool) → Stmts → List Use
  stmts_uses n i no_stmts = []
  stmts_uses n i (more_stmts s ss) = stmt_uses n i s ++ stmts_uses (n + stmt_nodes_of s) i ss

abbrev pub uses_of : Option Body → List Use
uses_of None = []
uses_of (Some b) = stmt_uses 0 false b.code

-- those of body f
abbrev pub uses : Program → (f : ℕ) → List Use
uses p f = uses_of (slice_get p.bodies f)

-- ---- they stand in the order of their nodes

abbrev pub node_of : Use → ℕ
node_of (Access n i place pos) = n
node_of (Calls n i f pos) = n

-- from a on and below b
abbrev pub Rising : (a b : ℕ) → List Use → Type 0
Rising a b [] = a ≤ b
Rising a b (u ∷ us) = (a ≤ node_of u) × Rising (node_of u + 1) b us

abbrev pub nodes_in : Option Body → ℕ
nodes_in None = 0
nodes_in (Some b) = stmt_nodes_of b.code

abbrev pub EachBodyRises : Type 0
EachBodyRises = (p : Program) (f : ℕ) → Rising 0 (nodes_in (slice_get p.bodies f)) (uses p f)
