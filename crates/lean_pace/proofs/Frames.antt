-- The weight of a body's frame, by its nodes and the bytes of its locals: expressions have no more levels than nodes.
use Rattle.std.proofs.Common.{◌≡◌, ℕ, ◌+◌, ◌*◌, ◌≤◌, List, [], ◌∷◌, Option, Some, None, arith}
use Rattle.std.specs.Prelude.{sum_by}
use Rattle.std.proofs.lemmas.List.Sums.{sum_by-cons}
use Rattle.nesc_core.specs.Plain.{Ty, Expr, const, null, read, addr, un, bin, convert, offset, distance, both, either, choice, assign, update, call, post, port_in, port_out, comma, Exprs, no_exprs, more_exprs, Place, object, local, deref, index, field, Stmt, eval, block, branch, loop, switch, break, continue, return, atomic, clear, here, Stmts, no_stmts, more_stmts, Body, Program}
use Rattle.nesc_core.specs.Nodes.{body_nodes_of, expr_nodes_of, exprs_nodes_of, maybe_nodes_of, place_nodes_of, stmt_nodes_of, stmts_nodes_of}
use Rattle.nesc_core.specs.Size.{layout_of}
use Rattle.nesc_core.specs.Weights.{even, expr_levels, exprs_levels, frame_weight, greatest_levels, local_bytes_in, maybe_levels, place_levels, stmt_atomics, stmt_levels, stmts_atomics, stmts_levels}

-- ---- levels

expr_some : (e : Expr) → 1 ≤ expr_nodes_of e
expr_some (const t x) = omega arith
expr_some null = omega arith
expr_some (read place at) = omega arith
expr_some (addr place) = omega arith
expr_some (un op t e) = omega arith
expr_some (bin op t a b) = omega arith
expr_some (convert t e) = omega arith
expr_some (offset a b n) = omega arith
expr_some (distance a b n) = omega arith
expr_some (both a b) = omega arith
expr_some (either a b) = omega arith
expr_some (choice a b c) = omega arith
expr_some (assign place e at) = omega arith
expr_some (update place op t e old at) = omega arith
expr_some (call f arguments at) = omega arith
expr_some (post k) = omega arith
expr_some (port_in port) = omega arith
expr_some (port_out port e) = omega arith
expr_some (comma a b) = omega arith

place_some : (place : Place) → 1 ≤ place_nodes_of place
place_some (object k) = omega arith
place_some (local x) = omega arith
place_some (deref e t) = omega arith
place_some (index place e) = omega arith
place_some (field place k) = omega arith

mutual
  expr_low : (e : Expr) → expr_levels e ≤ expr_nodes_of e
  expr_low (const t x) = omega arith
  expr_low null = omega arith
  expr_low (read place at) = let h = place_low place in omega (arith, h)
  expr_low (addr place) = let h = place_low place in omega (arith, h)
  expr_low (un op t e) = let h = expr_low e in omega (arith, h)
  expr_low (bin op t a b) = let h = expr_low a in let g = expr_low b in let x = expr_some a in omega (arith, h, g, x)
  expr_low (convert t e) = let h = expr_low e in omega (arith, h)
  expr_low (offset a b n) = let h = expr_low a in let g = expr_low b in let x = expr_some a in omega (arith, h, g, x)
  expr_low (distance a b n) = let h = expr_low a in let g = expr_low b in let x = expr_some a in omega (arith, h, g, x)
  expr_low (both a b) = let h = expr_low a in let g = expr_low b in let x = expr_some a in omega (arith, h, g, x)
  expr_low (either a b) = let h = expr_low a in let g = expr_low b in let x = expr_some a in omega (arith, h, g, x)
  expr_low (choice a b c) =
      let h = expr_low a in let g = expr_low b in let k = expr_low c in
      let x = expr_some a in let y = expr_some b in
      omega (arith, h, g, k, x, y)
  expr_low (assign place e at) = let h = place_low place in let g = expr_low e in let x = place_some place in omega (arith, h, g, x)
  expr_low (update place op t e old at) = let h = place_low place in let g = expr_low e in let x = place_some place in omega (arith, h, g, x)
  expr_low (call f arguments at) = let h = exprs_low arguments 0 in omega (arith, h)
  expr_low (post k) = omega arith
  expr_low (port_in port) = omega arith
  expr_low (port_out port e) = let h = expr_low e in omega (arith, h)
  expr_low (comma a b) = let h = expr_low a in let g = expr_low b in let x = expr_some a in omega (arith, h, g, x)

  exprs_low : (es : Exprs) (before : ℕ) → exprs_levels es before ≤ before + exprs_nodes_of es
  exprs_low no_exprs before = omega arith
  exprs_low (more_exprs e rest) before = let h = expr_low e in let g = exprs_low rest (before + 1) in let x = expr_some e in omega (arith, h, g, x)

  place_low : (place : Place) → place_levels place ≤ place_nodes_of place
  place_low (object k) = omega arith
  place_low (local x) = omega arith
  place_low (deref e t) = let h = expr_low e in omega (arith, h)
  place_low (index place e) = let h = place_low place in let g = expr_low e in let x = place_some place in omega (arith, h, g, x)
  place_low (field place k) = let h = place_low place in omega (arith, h)

maybe_low : (e : Option Expr) → maybe_levels e ≤ maybe_nodes_of e
maybe_low None = omega arith
maybe_low (Some e) = expr_low e

greatest_low : (es : Exprs) → greatest_levels es ≤ exprs_nodes_of es
greatest_low no_exprs = omega arith
greatest_low (more_exprs e rest) = let h = expr_low e in let g = greatest_low rest in omega (arith, h, g)

-- with the atomic statements that are nested
mutual
  stmt_low : (s : Stmt) → stmt_levels s + stmt_atomics s ≤ stmt_nodes_of s
  stmt_low (eval e) = let h = expr_low e in omega (arith, h)
  stmt_low (block list) = let h = stmts_low list in omega (arith, h)
  stmt_low (branch test a b) = let h = expr_low test in let g = stmt_low a in let k = stmt_low b in omega (arith, h, g, k)
  stmt_low (loop first test step body) = let h = expr_low test in let g = maybe_low step in let k = stmt_low body in omega (arith, h, g, k)
  stmt_low (switch e cases list) = let h = expr_low e in let g = stmts_low list in omega (arith, h, g)
  stmt_low break = omega arith
  stmt_low continue = omega arith
  stmt_low (return e) = let h = maybe_low e in omega (arith, h)
  stmt_low (atomic s) = let h = stmt_low s in omega (arith, h)
  stmt_low (clear x) = omega arith
  stmt_low (here arguments first count body) = let h = greatest_low arguments in let g = stmt_low body in omega (arith, h, g)

  stmts_low : (list : Stmts) → stmts_levels list + stmts_atomics list ≤ stmts_nodes_of list
  stmts_low no_stmts = omega arith
  stmts_low (more_stmts s rest) = let h = stmt_low s in let g = stmts_low rest in omega (arith, h, g)

-- ---- bytes

double : (p : Program) (ts : List Ty) → sum_by (λ t. even (layout_of p.structs t).size) ts ≤ 2 * sum_by (λ t. (layout_of p.structs t).size) ts
double p [] = omega arith
double p (t ∷ ts) =
    let e : sum_by (λ t. even (layout_of p.structs t).size) (t ∷ ts) ≡ even (layout_of p.structs t).size + sum_by (λ t. even (layout_of p.structs t).size) ts = sum_by-cons (λ t. even (layout_of p.structs t).size) t ts in
    let g : sum_by (λ t. (layout_of p.structs t).size) (t ∷ ts) ≡ (layout_of p.structs t).size + sum_by (λ t. (layout_of p.structs t).size) ts = sum_by-cons (λ t. (layout_of p.structs t).size) t ts in
    let h = double p ts in
    omega (arith, e, g, h)

pub frame_low : (p : Program) (b : Body) → frame_weight p b ≤ 2 * local_bytes_in p b + 4 * body_nodes_of b + 40
frame_low p b = let h = double p b.locals in let g = stmt_low b.code in omega (arith, h, g)
