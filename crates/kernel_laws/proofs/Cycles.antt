-- The calls of the kernel's program: those of the program, and calls of the function that posts, which calls nothing.
use Rattle.std.proofs.Common.{◌≡◌, ℕ, ◌+◌, ◌<◌, Bool, true, false, List, [], ◌∷◌, ◌++◌, length, Option, Some, None, refl, sym, subst, ap, ◌∙◌, arith, ◌≤◌}
use Rattle.std.specs.Prelude.{◌==◌, if◌then◌else◌, slice_get}
use Rattle.std.specs.List.{All, AllByRecursion}
use Rattle.std.proofs.lemmas.List.Elements.{All-from_recursion, recursion_from_All, All-weaker, All-nil}
use Rattle.std.proofs.lemmas.Bool.Decides.{nat_tests}
use Rattle.nesc_core.specs.Plain.{Expr, const, null, read, addr, un, bin, convert, offset, distance, both, either, choice, assign, update, call, post, port_in, port_out, comma, Exprs, no_exprs, more_exprs, Place, object, local, deref, index, field, Stmt, eval, block, branch, loop, switch, break, continue, return, atomic, clear, here, Stmts, no_stmts, more_stmts, Body, Program}
use Rattle.nesc_core.specs.Calls.{expr_calls, exprs_calls, place_calls, maybe_calls, stmt_calls, stmts_calls, HasNoCycle}
use Rattle.task_queue.specs.Posting.{posting_expr, posting_exprs, posting_place, posting_maybe, posting_stmt, posting_stmts}
use Rattle.task_queue.specs.Kernel.{kernel_program}
use Rattle.task_queue.proofs.Bodies.{InKernel, kept, queues, pops, in_kernel, bodies_length}

module _ (queue : ℕ) (P : ℕ → Type 0) (posts : P queue) where
  abbrev Each : List ℕ → Type 0
  Each xs = AllByRecursion P xs

  joins : (xs ys : List ℕ) → Each xs → Each ys → Each (xs ++ ys)
  joins [] ys h k = k
  joins (x ∷ xs) ys h k = (h.0, joins xs ys h.1 k)

  front : (xs ys : List ℕ) → Each (xs ++ ys) → Each xs
  front [] ys h = tt
  front (x ∷ xs) ys h = (h.0, front xs ys h.1)

  back : (xs ys : List ℕ) → Each (xs ++ ys) → Each ys
  back [] ys h = h
  back (x ∷ xs) ys h = back xs ys h.1

  -- the calls of two parts
  two : (xs ys xs' ys' : List ℕ) → (Each xs → Each xs') → (Each ys → Each ys') → Each (xs ++ ys) → Each (xs' ++ ys')
  two xs ys xs' ys' f g h = joins xs' ys' (f (front xs ys h)) (g (back xs ys h))

  mutual
    expr_each : (e : Expr) → Each (expr_calls e) → Each (expr_calls (posting_expr queue e))
    expr_each (const t x) h = h
    expr_each null h = h
    expr_each (read place at) h = place_each place h
    expr_each (addr place) h = place_each place h
    expr_each (un op t e) h = expr_each e h
    expr_each (bin op t a b) h = two (expr_calls a) (expr_calls b) _ _ (expr_each a) (expr_each b) h
    expr_each (convert t e) h = expr_each e h
    expr_each (offset a b n) h = two (expr_calls a) (expr_calls b) _ _ (expr_each a) (expr_each b) h
    expr_each (distance a b n) h = two (expr_calls a) (expr_calls b) _ _ (expr_each a) (expr_each b) h
    expr_each (both a b) h = two (expr_calls a) (expr_calls b) _ _ (expr_each a) (expr_each b) h
    expr_each (either a b) h = two (expr_calls a) (expr_calls b) _ _ (expr_each a) (expr_each b) h
    expr_each (choice a b c) h =
        two (expr_calls a ++ expr_calls b) (expr_calls c) (expr_calls (posting_expr queue a) ++ expr_calls (posting_expr queue b)) _
        (two (expr_calls a) (expr_calls b) _ _ (expr_each a) (expr_each b)) (expr_each c) h
    expr_each (assign place e at) h = two (place_calls place) (expr_calls e) _ _ (place_each place) (expr_each e) h
    expr_each (update place op t e old at) h = two (place_calls place) (expr_calls e) _ _ (place_each place) (expr_each e) h
    expr_each (call f arguments at) h = (h.0, exprs_each arguments h.1)
    expr_each (post k) h = (posts, tt)
    expr_each (port_in port) h = h
    expr_each (port_out port e) h = expr_each e h
    expr_each (comma a b) h = two (expr_calls a) (expr_calls b) _ _ (expr_each a) (expr_each b) h

    exprs_each : (es : Exprs) → Each (exprs_calls es) → Each (exprs_calls (posting_exprs queue es))
    exprs_each no_exprs h = h
    exprs_each (more_exprs e rest) h = two (expr_calls e) (exprs_calls rest) _ _ (expr_each e) (exprs_each rest) h

    place_each : (place : Place) → Each (place_calls place) → Each (place_calls (posting_place queue place))
    place_each (object k) h = h
    place_each (local k) h = h
    place_each (deref e t) h = expr_each e h
    place_each (index place e) h = two (place_calls place) (expr_calls e) _ _ (place_each place) (expr_each e) h
    place_each (field place k) h = place_each place h

  maybe_each : (e : Option Expr) → Each (maybe_calls e) → Each (maybe_calls (posting_maybe queue e))
  maybe_each None h = h
  maybe_each (Some e) h = expr_each e h

  mutual
    stmt_each : (s : Stmt) → Each (stmt_calls s) → Each (stmt_calls (posting_stmt queue s))
    stmt_each (eval e) h = expr_each e h
    stmt_each (block list) h = stmts_each list h
    stmt_each (branch e a b) h =
        two (expr_calls e ++ stmt_calls a) (stmt_calls b) (expr_calls (posting_expr queue e) ++ stmt_calls (posting_stmt queue a)) _
        (two (expr_calls e) (stmt_calls a) _ _ (expr_each e) (stmt_each a)) (stmt_each b) h
    stmt_each (loop first test step body) h =
        two (expr_calls test ++ maybe_calls step) (stmt_calls body) (expr_calls (posting_expr queue test) ++ maybe_calls (posting_maybe queue step)) _
        (two (expr_calls test) (maybe_calls step) _ _ (expr_each test) (maybe_each step)) (stmt_each body) h
    stmt_each (switch e cases list) h = two (expr_calls e) (stmts_calls list) _ _ (expr_each e) (stmts_each list) h
    stmt_each break h = h
    stmt_each continue h = h
    stmt_each (return e) h = maybe_each e h
    stmt_each (atomic s) h = stmt_each s h
    stmt_each (clear k) h = h
    stmt_each (here arguments first count body) h = two (exprs_calls arguments) (stmt_calls body) _ _ (exprs_each arguments) (stmt_each body) h

    stmts_each : (ss : Stmts) → Each (stmts_calls ss) → Each (stmts_calls (posting_stmts queue ss))
    stmts_each no_stmts h = h
    stmts_each (more_stmts s rest) h = two (stmt_calls s) (stmts_calls rest) _ _ (stmt_each s) (stmts_each rest) h

-- the new bodies are lowest
module _ (p : Program) (h : HasNoCycle p) where
  abbrev above : Bool → Bool → ℕ → ℕ
  above is_queue is_pop r = if is_queue then 0 else (if is_pop then 0 else r + 1)

  abbrev rank : ℕ → ℕ
  rank f = above (f == length p.bodies) (f == length p.bodies + 1) (h.rank f)

  most : (a b : Bool) (r : ℕ) → above a b r ≤ r + 1
  most true b r = omega arith
  most false true r = omega arith
  most false false r = omega arith

  same_rank : (f : ℕ) → f < length p.bodies → rank f ≡ h.rank f + 1
  same_rank f lt = by_tests (f == length p.bodies) (f == length p.bodies + 1) refl refl
    where
      by_tests : (a b : Bool) → (f == length p.bodies) ≡ a → (f == length p.bodies + 1) ≡ b → above a b (h.rank f) ≡ h.rank f + 1
      by_tests true b is also = absurd (grind (arith, nat_tests))
      by_tests false true is also = absurd (grind (arith, nat_tests))
      by_tests false false is also = refl

  queue_rank : rank (length p.bodies) ≡ 0
  queue_rank = by_test (length p.bodies == length p.bodies) refl
    where
      by_test : (a : Bool) → (length p.bodies == length p.bodies) ≡ a → above a (length p.bodies == length p.bodies + 1) (h.rank (length p.bodies)) ≡ 0
      by_test true is = refl
      by_test false is = absurd (grind (arith, nat_tests))

  pop_rank : rank (length p.bodies + 1) ≡ 0
  pop_rank = by_tests (length p.bodies + 1 == length p.bodies) (length p.bodies + 1 == length p.bodies + 1) refl
    where
      by_tests : (a b : Bool) → (length p.bodies + 1 == length p.bodies + 1) ≡ b → above a b (h.rank (length p.bodies + 1)) ≡ 0
      by_tests true b is = refl
      by_tests false true is = refl
      by_tests false false is = absurd (grind (arith, nat_tests))

  pub kernel_has_no_cycle : HasNoCycle (kernel_program p)
  kernel_has_no_cycle = record { rank = rank; low = low_in; falls = falls_in }
    where
      long : length (kernel_program p).bodies ≡ length p.bodies + 2
      long = bodies_length p

      low_in : (f : ℕ) (b : Body) → slice_get (kernel_program p).bodies f ≡ Some b → rank f < length (kernel_program p).bodies
      low_in f b is = low_found f b (in_kernel p f b is)
        where
          low_found : (f : ℕ) (b : Body) → InKernel p f b → rank f < length (kernel_program p).bodies
          low_found f b (kept c old lt is) = let under = h.low f c old in let over = most (f == length p.bodies) (f == length p.bodies + 1) (h.rank f) in omega (arith, long, over, under)
          low_found f b (queues at is) = let none : rank f ≡ 0 = ap rank at ∙ queue_rank in omega (arith, long, none)
          low_found f b (pops at is) = let none : rank f ≡ 0 = ap rank at ∙ pop_rank in omega (arith, long, none)

      falls_in : (f : ℕ) (b : Body) → slice_get (kernel_program p).bodies f ≡ Some b → All (λ g. rank g < rank f) (stmt_calls b.code)
      falls_in f b is = falls_found (in_kernel p f b is)
        where
          falls_found : InKernel p f b → All (λ g. rank g < rank f) (stmt_calls b.code)
          falls_found (kept c old lt same) =
              let here = same_rank f lt in
              let lower : (g : ℕ) → h.rank g < h.rank f → rank g < rank f =
              λ g less. omega (arith, here, less, most (g == length p.bodies) (g == length p.bodies + 1) (h.rank g)) in
              let first : rank (length p.bodies) < rank f = omega (arith, here, queue_rank) in
              subst (λ (d : Body). All (λ g. rank g < rank f) (stmt_calls d.code)) (sym same)
              (All-from_recursion _ _
              (stmt_each (length p.bodies) (λ g. rank g < rank f) first c.code
              (recursion_from_All _ _ (All-weaker _ _ lower _ (h.falls f c old)))))
          falls_found (queues at same) = subst (λ (d : Body). All (λ g. rank g < rank f) (stmt_calls d.code)) (sym same) (All-nil _)
          falls_found (pops at same) = subst (λ (d : Body). All (λ g. rank g < rank f) (stmt_calls d.code)) (sym same) (All-nil _)
