-- The accesses and calls of a body stand in the order of their nodes, each node once.
use Rattle.std.proofs.Common.{◌≡◌, ℕ, ◌+◌, ◌≤◌, Bool, true, List, [], ◌∷◌, ◌++◌, Option, Some, None, subst, arith, false}
use Rattle.nesc_core.specs.Plain.{Expr, const, null, read, addr, un, bin, convert, offset, distance, both, either, choice, assign, update, call, post, port_in, port_out, comma, Exprs, no_exprs, more_exprs, Place, object, local, deref, index, field, Stmt, eval, block, branch, loop, switch, break, continue, return, atomic, clear, here, Stmts, no_stmts, more_stmts}
use Rattle.std.specs.Prelude.{slice_get}
use Rattle.nesc_core.specs.Plain.{Body}
use Rattle.nesc_core.specs.Nodes.{expr_nodes_of, exprs_nodes_of, place_nodes_of, maybe_nodes_of, stmt_nodes_of, stmts_nodes_of}
use Rattle.call_graph.specs.Uses.{Use, Access, Calls, expr_uses, exprs_uses, place_uses, maybe_uses, stmt_uses, stmts_uses, uses_of, node_of, Rising, nodes_in, EachBodyRises}

pub record Rises (a b : ℕ) (us : List Use) : Type 0 where
  pub by : Rising a b us

earlier : (a b c : ℕ) (us : List Use) → a ≤ b → Rising b c us → Rising a c us
earlier a b c [] le h = omega (arith, le, h)
earlier a b c (u ∷ us) le h = (omega (arith, le, h.0), h.1)

later : (a b c : ℕ) (us : List Use) → b ≤ c → Rising a b us → Rising a c us
later a b c [] le h = omega (arith, le, h)
later a b c (u ∷ us) le h = (h.0, later (node_of u + 1) b c us le h.1)

joined : (a b c : ℕ) (xs ys : List Use) → Rising a b xs → Rising b c ys → Rising a c (xs ++ ys)
joined a b c [] ys h k = earlier a b c ys h k
joined a b c (u ∷ xs) ys h k = (h.0, joined (node_of u + 1) b c xs ys h.1 k)

none : {a : ℕ} (b : ℕ) → a ≤ b → Rises a b []
none b le = record { by = le }

wide : {a b c d : ℕ} {us : List Use} → Rises b c us → a ≤ b → c ≤ d → Rises a d us
wide h le more = record { by = earlier _ _ _ _ le (later _ _ _ _ more h.by) }

both_rise : {a b c : ℕ} {xs ys : List Use} → Rises a b xs → Rises b c ys → Rises a c (xs ++ ys)
both_rise h k = record { by = joined _ _ _ _ _ h.by k.by }

first : {b : ℕ} {us : List Use} (u : Use) → Rises (node_of u + 1) b us → Rises (node_of u) b (u ∷ us)
first u h = record { by = (omega arith, h.by) }

mutual
  expr_rises : (e : Expr) (n : ℕ) (i : Bool) → Rises n (n + expr_nodes_of e) (expr_uses n i e)
  expr_rises (const t x) n i = none _ (omega arith)
  expr_rises null n i = none _ (omega arith)
  expr_rises (read place pos) n i = wide (first (Access n i place pos) (place_rises place (n + 1) i)) (omega arith) (omega arith)
  expr_rises (addr place) n i = wide (place_rises place (n + 1) i) (omega arith) (omega arith)
  expr_rises (un op t e) n i = wide (expr_rises e (n + 1) i) (omega arith) (omega arith)
  expr_rises (bin op t a b) n i = wide (both_rise (expr_rises a (n + 1) i) (expr_rises b _ i)) (omega arith) (omega arith)
  expr_rises (convert t e) n i = wide (expr_rises e (n + 1) i) (omega arith) (omega arith)
  expr_rises (offset a b size) n i = wide (both_rise (expr_rises a (n + 1) i) (expr_rises b _ i)) (omega arith) (omega arith)
  expr_rises (distance a b size) n i = wide (both_rise (expr_rises a (n + 1) i) (expr_rises b _ i)) (omega arith) (omega arith)
  expr_rises (both a b) n i = wide (both_rise (expr_rises a (n + 1) i) (expr_rises b _ i)) (omega arith) (omega arith)
  expr_rises (either a b) n i = wide (both_rise (expr_rises a (n + 1) i) (expr_rises b _ i)) (omega arith) (omega arith)
  expr_rises (choice a b c) n i = wide (both_rise (expr_rises a (n + 1) i) (both_rise (expr_rises b _ i) (expr_rises c _ i))) (omega arith) (omega arith)
  expr_rises (assign place e pos) n i = wide (first (Access n i place pos) (both_rise (place_rises place (n + 1) i) (expr_rises e _ i))) (omega arith) (omega arith)
  expr_rises (update place op t e old pos) n i = wide (first (Access n i place pos) (both_rise (place_rises place (n + 1) i) (expr_rises e _ i))) (omega arith) (omega arith)
  expr_rises (call f args pos) n i = wide (first (Calls n i f pos) (exprs_rise args (n + 1) i)) (omega arith) (omega arith)
  expr_rises (post k) n i = none _ (omega arith)
  expr_rises (port_in port) n i = none _ (omega arith)
  expr_rises (port_out port e) n i = wide (expr_rises e (n + 1) i) (omega arith) (omega arith)
  expr_rises (comma a b) n i = wide (both_rise (expr_rises a (n + 1) i) (expr_rises b _ i)) (omega arith) (omega arith)

  exprs_rise : (es : Exprs) (n : ℕ) (i : Bool) → Rises n (n + exprs_nodes_of es) (exprs_uses n i es)
  exprs_rise no_exprs n i = none _ (omega arith)
  exprs_rise (more_exprs e es) n i = wide (both_rise (expr_rises e n i) (exprs_rise es _ i)) (omega arith) (omega arith)

  place_rises : (place : Place) (n : ℕ) (i : Bool) → Rises n (n + place_nodes_of place) (place_uses n i place)
  place_rises (object k) n i = none _ (omega arith)
  place_rises (local x) n i = none _ (omega arith)
  place_rises (deref e t) n i = wide (expr_rises e (n + 1) i) (omega arith) (omega arith)
  place_rises (index place e) n i = wide (both_rise (place_rises place (n + 1) i) (expr_rises e _ i)) (omega arith) (omega arith)
  place_rises (field place k) n i = wide (place_rises place (n + 1) i) (omega arith) (omega arith)

maybe_rises : (e : Option Expr) (n : ℕ) (i : Bool) → Rises n (n + maybe_nodes_of e) (maybe_uses n i e)
maybe_rises None n i = none _ (omega arith)
maybe_rises (Some e) n i = expr_rises e n i

mutual
  pub stmt_rises : (s : Stmt) (n : ℕ) (i : Bool) → Rises n (n + stmt_nodes_of s) (stmt_uses n i s)
  stmt_rises (eval e) n i = wide (expr_rises e (n + 1) i) (omega arith) (omega arith)
  stmt_rises (block list) n i = wide (stmts_rise list (n + 1) i) (omega arith) (omega arith)
  stmt_rises (branch e a b) n i = wide (both_rise (expr_rises e (n + 1) i) (both_rise (stmt_rises a _ i) (stmt_rises b _ i))) (omega arith) (omega arith)
  stmt_rises (loop at_first test step body) n i = wide (both_rise (expr_rises test (n + 1) i) (both_rise (maybe_rises step _ i) (stmt_rises body _ i))) (omega arith) (omega arith)
  stmt_rises (switch e cases list) n i = wide (both_rise (expr_rises e (n + 1) i) (stmts_rise list _ i)) (omega arith) (omega arith)
  stmt_rises break n i = none _ (omega arith)
  stmt_rises continue n i = none _ (omega arith)
  stmt_rises (return e) n i = wide (maybe_rises e (n + 1) i) (omega arith) (omega arith)
  stmt_rises (atomic s) n i = wide (stmt_rises s (n + 1) true) (omega arith) (omega arith)
  stmt_rises (clear k) n i = none _ (omega arith)
  stmt_rises (here args start count body) n i = wide (both_rise (exprs_rise args (n + 1) i) (stmt_rises body _ i)) (omega arith) (omega arith)

  stmts_rise : (list : Stmts) (n : ℕ) (i : Bool) → Rises n (n + stmts_nodes_of list) (stmts_uses n i list)
  stmts_rise no_stmts n i = none _ (omega arith)
  stmts_rise (more_stmts s ss) n i = wide (both_rise (stmt_rises s n i) (stmts_rise ss _ i)) (omega arith) (omega arith)

same : (n : ℕ) → 0 + n ≡ n
same n = omega arith

body_rises : (o : Option Body) → Rising 0 (nodes_in o) (uses_of o)
body_rises None = omega arith
body_rises (Some b) = subst (λ k. Rising 0 k (stmt_uses 0 false b.code)) (same (stmt_nodes_of b.code)) (stmt_rises b.code 0 false).by

pub each_body_rises : EachBodyRises
each_body_rises p f = body_rises (slice_get p.bodies f)
