-- Frames of the kernel's program.
use Rattle.std.proofs.Common.{◌≡◌, ℕ, ◌+◌, ◌≤◌, length, max, Option, Some, None, refl, sym, subst, ◌∙◌, arith}
use Rattle.std.specs.Prelude.{slice_get}
use Rattle.std.proofs.lemmas.Option.{same_Some}
use Rattle.nesc_core.specs.Plain.{Expr, const, null, read, addr, un, bin, convert, offset, distance, both, either, choice, assign, update, call, post, port_in, port_out, comma, Exprs, no_exprs, more_exprs, Place, object, local, deref, index, field, Stmt, eval, block, branch, loop, switch, break, continue, return, atomic, clear, here, Stmts, no_stmts, more_stmts, Body, Program}
use Rattle.nesc_core.specs.Weights.{expr_levels, exprs_levels, place_levels, maybe_levels, greatest_levels, stmt_levels, stmts_levels, stmt_atomics, stmts_atomics, frame_weight}
use Rattle.task_queue.specs.Posting.{posting_expr, posting_exprs, posting_place, posting_maybe, posting_stmt, posting_stmts}
use Rattle.task_queue.specs.Kernel.{posting_body, kernel_program}
use Rattle.kernel_laws.specs.Laws.{FramesGrow}
use Rattle.task_queue.proofs.Bodies.{old_body, queue_is, pop_is}

-- one more at most
two : (a b a' b' : ℕ) → a' ≤ a + 1 → b' ≤ b + 1 → max a' b' ≤ max a b + 1
two a b a' b' f g = omega (arith, f, g)

three : (a b c a' b' c' : ℕ) → a' ≤ a + 1 → b' ≤ b + 1 → c' ≤ c + 1 → max a' (max b' c') ≤ max a (max b c) + 1
three a b c a' b' c' f g h = omega (arith, f, g, h)

module _ (queue : ℕ) where
  mutual
    expr_grows : (e : Expr) → expr_levels (posting_expr queue e) ≤ expr_levels e + 1
    expr_grows (const t x) = omega arith
    expr_grows null = omega arith
    expr_grows (read place at) = omega (arith, place_grows place)
    expr_grows (addr place) = omega (arith, place_grows place)
    expr_grows (un op t e) = omega (arith, expr_grows e)
    expr_grows (bin op t a b) = omega (arith, expr_grows a, expr_grows b)
    expr_grows (convert t e) = omega (arith, expr_grows e)
    expr_grows (offset a b n) = omega (arith, expr_grows a, expr_grows b)
    expr_grows (distance a b n) = omega (arith, expr_grows a, expr_grows b)
    expr_grows (both a b) = omega (arith, expr_grows a, expr_grows b)
    expr_grows (either a b) = omega (arith, expr_grows a, expr_grows b)
    expr_grows (choice a b c) = omega (arith, expr_grows a, expr_grows b, expr_grows c)
    expr_grows (assign place e at) = omega (arith, place_grows place, expr_grows e)
    expr_grows (update place op t e old at) = omega (arith, place_grows place, expr_grows e)
    expr_grows (call f arguments at) = omega (arith, exprs_grow arguments 0)
    expr_grows (post k) = omega arith
    expr_grows (port_in port) = omega arith
    expr_grows (port_out port e) = omega (arith, expr_grows e)
    expr_grows (comma a b) = omega (arith, expr_grows a, expr_grows b)

    exprs_grow : (es : Exprs) (before : ℕ) → exprs_levels (posting_exprs queue es) before ≤ exprs_levels es before + 1
    exprs_grow no_exprs before = omega arith
    exprs_grow (more_exprs e rest) before = omega (arith, expr_grows e, exprs_grow rest (before + 1))

    place_grows : (place : Place) → place_levels (posting_place queue place) ≤ place_levels place + 1
    place_grows (object k) = omega arith
    place_grows (local k) = omega arith
    place_grows (deref e t) = omega (arith, expr_grows e)
    place_grows (index place e) = omega (arith, place_grows place, expr_grows e)
    place_grows (field place k) = omega (arith, place_grows place)

  greatest_grows : (es : Exprs) → greatest_levels (posting_exprs queue es) ≤ greatest_levels es + 1
  greatest_grows no_exprs = omega arith
  greatest_grows (more_exprs e rest) = omega (arith, expr_grows e, greatest_grows rest)

  maybe_grows : (e : Option Expr) → maybe_levels (posting_maybe queue e) ≤ maybe_levels e + 1
  maybe_grows None = omega arith
  maybe_grows (Some e) = expr_grows e

  mutual
    stmt_grows : (s : Stmt) → stmt_levels (posting_stmt queue s) ≤ stmt_levels s + 1
    stmt_grows (eval e) = expr_grows e
    stmt_grows (block list) = stmts_grow list
    stmt_grows (branch e a b) = omega (arith, expr_grows e, stmt_grows a, stmt_grows b)
    stmt_grows (loop first test step body) = omega (arith, expr_grows test, maybe_grows step, stmt_grows body)
    stmt_grows (switch e cases list) = omega (arith, expr_grows e, stmts_grow list)
    stmt_grows break = omega arith
    stmt_grows continue = omega arith
    stmt_grows (return e) = maybe_grows e
    stmt_grows (atomic s) = stmt_grows s
    stmt_grows (clear k) = omega arith
    stmt_grows (here arguments first count body) = omega (arith, greatest_grows arguments, stmt_grows body)

    stmts_grow : (ss : Stmts) → stmts_levels (posting_stmts queue ss) ≤ stmts_levels ss + 1
    stmts_grow no_stmts = omega arith
    stmts_grow (more_stmts s rest) = omega (arith, stmt_grows s, stmts_grow rest)

  mutual
    stmt_nests : (s : Stmt) → stmt_atomics (posting_stmt queue s) ≡ stmt_atomics s
    stmt_nests (eval e) = refl
    stmt_nests (block list) = stmts_nest list
    stmt_nests (branch e a b) = omega (arith, stmt_nests a, stmt_nests b)
    stmt_nests (loop first test step body) = stmt_nests body
    stmt_nests (switch e cases list) = stmts_nest list
    stmt_nests break = refl
    stmt_nests continue = refl
    stmt_nests (return e) = refl
    stmt_nests (atomic s) = omega (arith, stmt_nests s)
    stmt_nests (clear k) = refl
    stmt_nests (here arguments first count body) = stmt_nests body

    stmts_nest : (ss : Stmts) → stmts_atomics (posting_stmts queue ss) ≡ stmts_atomics ss
    stmts_nest no_stmts = refl
    stmts_nest (more_stmts s rest) = omega (arith, stmt_nests s, stmts_nest rest)

-- ---- bodies

pub body_is : (p : Program) (f : ℕ) (b c : Body) → slice_get p.bodies f ≡ Some b → slice_get (kernel_program p).bodies f ≡ Some c → c ≡ posting_body (length p.bodies) b
body_is p f b c old new = same_Some _ _ (sym new ∙ old_body p f b old)

module _ (p : Program) where
  body_weight : (b : Body) → frame_weight (kernel_program p) (posting_body (length p.bodies) b) ≤ frame_weight p b + 4
  body_weight b = omega (arith, stmt_grows (length p.bodies) b.code, stmt_nests (length p.bodies) b.code)

  pub frames_grow : FramesGrow p
  frames_grow = record {
    bodies = λ f b c old new. subst (λ (d : Body). frame_weight (kernel_program p) d ≤ frame_weight p b + 4) (sym (body_is p f b c old new)) (body_weight b);
    queue = λ c is. subst (λ (d : Body). frame_weight (kernel_program p) d ≤ 100) (same_Some _ _ (sym (queue_is p) ∙ is)) (omega arith);
    pop = λ c is. subst (λ (d : Body). frame_weight (kernel_program p) d ≤ 100) (same_Some _ _ (sym (pop_is p) ∙ is)) (omega arith);
  }
