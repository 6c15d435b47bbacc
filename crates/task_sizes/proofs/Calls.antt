-- The calls of a body whose posts are calls: those of the body, and calls of the function that posts.
use Rattle.std.proofs.Common.{ℕ, ◌<◌, List, [], ◌∷◌, ◌++◌, Option, Some, None, arith}
use Rattle.std.specs.Prelude.{Contains}
use Rattle.std.specs.List.{All, AllByRecursion}
use Rattle.std.proofs.lemmas.List.Elements.{All-contains, All-contains_itself, All-from_recursion, All-weaker, recursion_from_All}
use Rattle.nesc_core.specs.Plain.{Expr, const, null, read, addr, un, bin, convert, offset, distance, both, either, choice, assign, update, call, post, port_in, port_out, comma, Exprs, no_exprs, more_exprs, Place, object, local, deref, index, field, Stmt, eval, block, branch, loop, switch, break, continue, return, atomic, clear, here, Stmts, no_stmts, more_stmts}
use Rattle.nesc_core.specs.Calls.{expr_calls, exprs_calls, place_calls, maybe_calls, stmt_calls, stmts_calls}
use Rattle.task_queue.specs.Posting.{posting_expr, posting_exprs, posting_place, posting_maybe, posting_stmt, posting_stmts}

module _ (queue : ℕ) (P : ℕ → Type 0) (posts : P queue) where
  abbrev Each : List ℕ → Type 0
  Each xs = AllByRecursion P xs

  joins : (xs ys : List ℕ) → Each xs → Each ys → Each (xs ++ ys)
  joins [] ys h k = k
  joins (x ∷ xs) ys h k = (h.0, joins xs ys h.1 k)

  front : (xs ys : List ℕ) → Each (xs ++ ys) → Each xs
  front [] ys h = tt
  front (x ∷ xs) ys h = (h.0, front xs ys h.1)

  back : (xs ys : List ℕ) → Each (xs ++ ys) → Each ys
  back [] ys h = h
  back (x ∷ xs) ys h = back xs ys h.1

  -- the calls of two parts
  two : (xs ys xs' ys' : List ℕ) → (Each xs → Each xs') → (Each ys → Each ys') → Each (xs ++ ys) → Each (xs' ++ ys')
  two xs ys xs' ys' f g h = joins xs' ys' (f (front xs ys h)) (g (back xs ys h))

  mutual
    expr_each : (e : Expr) → Each (expr_calls e) → Each (expr_calls (posting_expr queue e))
    expr_each (const t x) h = h
    expr_each null h = h
    expr_each (read place at) h = place_each place h
    expr_each (addr place) h = place_each place h
    expr_each (un op t e) h = expr_each e h
    expr_each (bin op t a b) h = two (expr_calls a) (expr_calls b) _ _ (expr_each a) (expr_each b) h
    expr_each (convert t e) h = expr_each e h
    expr_each (offset a b n) h = two (expr_calls a) (expr_calls b) _ _ (expr_each a) (expr_each b) h
    expr_each (distance a b n) h = two (expr_calls a) (expr_calls b) _ _ (expr_each a) (expr_each b) h
    expr_each (both a b) h = two (expr_calls a) (expr_calls b) _ _ (expr_each a) (expr_each b) h
    expr_each (either a b) h = two (expr_calls a) (expr_calls b) _ _ (expr_each a) (expr_each b) h
    expr_each (choice a b c) h =
        two (expr_calls a ++ expr_calls b) (expr_calls c) (expr_calls (posting_expr queue a) ++ expr_calls (posting_expr queue b)) _
        (two (expr_calls a) (expr_calls b) _ _ (expr_each a) (expr_each b)) (expr_each c) h
    expr_each (assign place e at) h = two (place_calls place) (expr_calls e) _ _ (place_each place) (expr_each e) h
    expr_each (update place op t e old at) h = two (place_calls place) (expr_calls e) _ _ (place_each place) (expr_each e) h
    expr_each (call f arguments at) h = (h.0, exprs_each arguments h.1)
    expr_each (post k) h = (posts, tt)
    expr_each (port_in port) h = h
    expr_each (port_out port e) h = expr_each e h
    expr_each (comma a b) h = two (expr_calls a) (expr_calls b) _ _ (expr_each a) (expr_each b) h

    exprs_each : (es : Exprs) → Each (exprs_calls es) → Each (exprs_calls (posting_exprs queue es))
    exprs_each no_exprs h = h
    exprs_each (more_exprs e rest) h = two (expr_calls e) (exprs_calls rest) _ _ (expr_each e) (exprs_each rest) h

    place_each : (place : Place) → Each (place_calls place) → Each (place_calls (posting_place queue place))
    place_each (object k) h = h
    place_each (local k) h = h
    place_each (deref e t) h = expr_each e h
    place_each (index place e) h = two (place_calls place) (expr_calls e) _ _ (place_each place) (expr_each e) h
    place_each (field place k) h = place_each place h

  maybe_each : (e : Option Expr) → Each (maybe_calls e) → Each (maybe_calls (posting_maybe queue e))
  maybe_each None h = h
  maybe_each (Some e) h = expr_each e h

  mutual
    stmt_each : (s : Stmt) → Each (stmt_calls s) → Each (stmt_calls (posting_stmt queue s))
    stmt_each (eval e) h = expr_each e h
    stmt_each (block list) h = stmts_each list h
    stmt_each (branch e a b) h =
        two (expr_calls e ++ stmt_calls a) (stmt_calls b) (expr_calls (posting_expr queue e) ++ stmt_calls (posting_stmt queue a)) _
        (two (expr_calls e) (stmt_calls a) _ _ (expr_each e) (stmt_each a)) (stmt_each b) h
    stmt_each (loop first test step body) h =
        two (expr_calls test ++ maybe_calls step) (stmt_calls body) (expr_calls (posting_expr queue test) ++ maybe_calls (posting_maybe queue step)) _
        (two (expr_calls test) (maybe_calls step) _ _ (expr_each test) (maybe_each step)) (stmt_each body) h
    stmt_each (switch e cases list) h = two (expr_calls e) (stmts_calls list) _ _ (expr_each e) (stmts_each list) h
    stmt_each break h = h
    stmt_each continue h = h
    stmt_each (return e) h = maybe_each e h
    stmt_each (atomic s) h = stmt_each s h
    stmt_each (clear k) h = h
    stmt_each (here arguments first count body) h = two (exprs_calls arguments) (stmt_calls body) _ _ (exprs_each arguments) (stmt_each body) h

    stmts_each : (ss : Stmts) → Each (stmts_calls ss) → Each (stmts_calls (posting_stmts queue ss))
    stmts_each no_stmts h = h
    stmts_each (more_stmts s rest) h = two (stmt_calls s) (stmts_calls rest) _ _ (stmt_each s) (stmts_each rest) h

abbrev IsKept : ℕ → Stmt → ℕ → Type 0
IsKept queue s g = g < queue → Contains (stmt_calls s) g

-- a call of another function is one of the body
pub kept_call : (queue : ℕ) (s : Stmt) (g : ℕ) → g < queue → Contains (stmt_calls (posting_stmt queue s)) g → Contains (stmt_calls s) g
kept_call queue s g low m =
    let own : All (IsKept queue s) (stmt_calls s) = All-weaker (Contains (stmt_calls s)) (IsKept queue s) (λ k there lt. there) (stmt_calls s) (All-contains_itself (stmt_calls s)) in
    let all = stmt_each queue (IsKept queue s) (λ lt. absurd (omega (arith, lt))) s (recursion_from_All (IsKept queue s) (stmt_calls s) own) in
    All-contains (IsKept queue s) (stmt_calls (posting_stmt queue s)) g (All-from_recursion (IsKept queue s) (stmt_calls (posting_stmt queue s)) all) m low
