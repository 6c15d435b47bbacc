-- The nodes of statements whose posts are calls: one more for each small call at most.
use Rattle.std.proofs.Common.{ℕ, ◌+◌, ◌≤◌, Option, Some, None, arith}
use Rattle.nesc_core.specs.Plain.{Expr, const, null, read, addr, un, bin, convert, offset, distance, both, either, choice, assign, update, call, post, port_in, port_out, comma, Exprs, no_exprs, more_exprs, Place, object, local, deref, index, field, Stmt, eval, block, branch, loop, switch, break, continue, return, atomic, clear, here, Stmts, no_stmts, more_stmts}
use Rattle.nesc_core.specs.Nodes.{expr_nodes_of, exprs_nodes_of, maybe_nodes_of, place_nodes_of, stmt_nodes_of, stmts_nodes_of}
use Rattle.task_queue.specs.Posting.{posting_expr, posting_exprs, posting_maybe, posting_place, posting_stmt, posting_stmts}
use Rattle.body_bytes.proofs.Small.{exprs_small, maybe_small, place_small, small_calls, stmt_small, stmts_small}

module _ (queue : ℕ) where
  mutual
    expr_posts : (e : Expr) → expr_nodes_of (posting_expr queue e) ≤ expr_nodes_of e + small_calls (posting_expr queue e)
    expr_posts (const t x) = omega arith
    expr_posts null = omega arith
    expr_posts (read place at) = let h = place_posts place in omega (arith, h)
    expr_posts (addr place) = let h = place_posts place in omega (arith, h)
    expr_posts (un op t e) = let h = expr_posts e in omega (arith, h)
    expr_posts (bin op t a b) = let h = expr_posts a in let g = expr_posts b in omega (arith, h, g)
    expr_posts (convert t e) = let h = expr_posts e in omega (arith, h)
    expr_posts (offset a b n) = let h = expr_posts a in let g = expr_posts b in omega (arith, h, g)
    expr_posts (distance a b n) = let h = expr_posts a in let g = expr_posts b in omega (arith, h, g)
    expr_posts (both a b) = let h = expr_posts a in let g = expr_posts b in omega (arith, h, g)
    expr_posts (either a b) = let h = expr_posts a in let g = expr_posts b in omega (arith, h, g)
    expr_posts (choice a b c) = let h = expr_posts a in let g = expr_posts b in let k = expr_posts c in omega (arith, h, g, k)
    expr_posts (assign place e at) = let h = place_posts place in let g = expr_posts e in omega (arith, h, g)
    expr_posts (update place op t e old at) = let h = place_posts place in let g = expr_posts e in omega (arith, h, g)
    expr_posts (call f arguments at) = let h = exprs_posts arguments in omega (arith, h)
    expr_posts (post k) = omega arith
    expr_posts (port_in port) = omega arith
    expr_posts (port_out port e) = let h = expr_posts e in omega (arith, h)
    expr_posts (comma a b) = let h = expr_posts a in let g = expr_posts b in omega (arith, h, g)

    exprs_posts : (es : Exprs) → exprs_nodes_of (posting_exprs queue es) ≤ exprs_nodes_of es + exprs_small (posting_exprs queue es)
    exprs_posts no_exprs = omega arith
    exprs_posts (more_exprs e rest) = let h = expr_posts e in let g = exprs_posts rest in omega (arith, h, g)

    place_posts : (place : Place) → place_nodes_of (posting_place queue place) ≤ place_nodes_of place + place_small (posting_place queue place)
    place_posts (object k) = omega arith
    place_posts (local x) = omega arith
    place_posts (deref e t) = let h = expr_posts e in omega (arith, h)
    place_posts (index place e) = let h = place_posts place in let g = expr_posts e in omega (arith, h, g)
    place_posts (field place k) = let h = place_posts place in omega (arith, h)

  maybe_posts : (e : Option Expr) → maybe_nodes_of (posting_maybe queue e) ≤ maybe_nodes_of e + maybe_small (posting_maybe queue e)
  maybe_posts None = omega arith
  maybe_posts (Some e) = expr_posts e

  mutual
    pub stmt_posts : (s : Stmt) → stmt_nodes_of (posting_stmt queue s) ≤ stmt_nodes_of s + stmt_small (posting_stmt queue s)
    stmt_posts (eval e) = let h = expr_posts e in omega (arith, h)
    stmt_posts (block list) = let h = stmts_posts list in omega (arith, h)
    stmt_posts (branch test a b) = let h = expr_posts test in let g = stmt_posts a in let k = stmt_posts b in omega (arith, h, g, k)
    stmt_posts (loop first test step body) = let h = expr_posts test in let g = maybe_posts step in let k = stmt_posts body in omega (arith, h, g, k)
    stmt_posts (switch e cases list) = let h = expr_posts e in let g = stmts_posts list in omega (arith, h, g)
    stmt_posts break = omega arith
    stmt_posts continue = omega arith
    stmt_posts (return e) = let h = maybe_posts e in omega (arith, h)
    stmt_posts (atomic s) = let h = stmt_posts s in omega (arith, h)
    stmt_posts (clear x) = omega arith
    stmt_posts (here arguments first count body) = let h = exprs_posts arguments in let g = stmt_posts body in omega (arith, h, g)

    stmts_posts : (list : Stmts) → stmts_nodes_of (posting_stmts queue list) ≤ stmts_nodes_of list + stmts_small (posting_stmts queue list)
    stmts_posts no_stmts = omega arith
    stmts_posts (more_stmts s rest) = let h = stmt_posts s in let g = stmts_posts rest in omega (arith, h, g)
