-- What a program's kernel keeps of it: nodes become twice as many at most, and what is cleared, dereferenced and taken stays.
use Rattle.std.proofs.Common.{◌≡◌, ℕ, ◌*◌, ◌≤◌, List, [], ◌∷◌, ◌++◌, length, map, Option, Some, None, refl, ap, ◌∙◌, append-nil, arith}
use Rattle.std.specs.Prelude.{sum_by}
use Rattle.std.specs.List.{All, filter, flat_map}
use Rattle.std.proofs.lemmas.List.Elements.{All-cons, All-head, All-nil, All-tail, filter-append}
use Rattle.nesc_core.specs.Plain.{Ty, Expr, const, null, read, addr, un, bin, convert, offset, distance, both, either, choice, assign, update, call, post, port_in, port_out, comma, Exprs, no_exprs, more_exprs, Place, object, local, deref, index, field, Stmt, eval, block, branch, loop, switch, break, continue, return, atomic, clear, here, Stmts, no_stmts, more_stmts, Object, Body, Program}
use Rattle.nesc_core.specs.Derefs.{derefs, expr_derefs, exprs_derefs, maybe_derefs, once, place_derefs, ranges_of, stmt_derefs, stmts_derefs}
use Rattle.nesc_core.specs.Nodes.{expr_nodes_of, exprs_nodes_of, maybe_nodes_of, place_nodes_of, stmt_nodes_of, stmts_nodes_of}
use Rattle.nesc_core.specs.Parts.{Part, addresses, parts_of_object, runs, taken_parts}
use Rattle.nesc_core.specs.Size.{layout_of}
use Rattle.task_queue.specs.Posting.{posting_expr, posting_exprs, posting_maybe, posting_place, posting_stmt, posting_stmts}
use Rattle.task_queue.specs.Kernel.{bytes_object, kernel_program, pop_body, pop_code, posting_body, queue_body, queue_code}
use Rattle.lean_pace.specs.Lean.{AreLeanStmts, IsLeanStmt, count_working, works}
use Rattle.lean_pace.specs.Pace.{KernelIsLean, clears_in, clears_in_all}

both_same : (a b c d : List Ty) → a ≡ c → b ≡ d → a ++ b ≡ c ++ d
both_same a b c d h g = ap (λ x. x ++ b) h ∙ ap (λ x. c ++ x) g

module _ (queue : ℕ) where
  -- ---- nodes

  mutual
    expr_twice : (e : Expr) → expr_nodes_of (posting_expr queue e) ≤ 2 * expr_nodes_of e
    expr_twice (const t x) = omega arith
    expr_twice null = omega arith
    expr_twice (read place at) = let h = place_twice place in omega (arith, h)
    expr_twice (addr place) = let h = place_twice place in omega (arith, h)
    expr_twice (un op t e) = let h = expr_twice e in omega (arith, h)
    expr_twice (bin op t a b) = let h = expr_twice a in let g = expr_twice b in omega (arith, h, g)
    expr_twice (convert t e) = let h = expr_twice e in omega (arith, h)
    expr_twice (offset a b n) = let h = expr_twice a in let g = expr_twice b in omega (arith, h, g)
    expr_twice (distance a b n) = let h = expr_twice a in let g = expr_twice b in omega (arith, h, g)
    expr_twice (both a b) = let h = expr_twice a in let g = expr_twice b in omega (arith, h, g)
    expr_twice (either a b) = let h = expr_twice a in let g = expr_twice b in omega (arith, h, g)
    expr_twice (choice a b c) = let h = expr_twice a in let g = expr_twice b in let k = expr_twice c in omega (arith, h, g, k)
    expr_twice (assign place e at) = let h = place_twice place in let g = expr_twice e in omega (arith, h, g)
    expr_twice (update place op t e old at) = let h = place_twice place in let g = expr_twice e in omega (arith, h, g)
    expr_twice (call f arguments at) = let h = exprs_twice arguments in omega (arith, h)
    expr_twice (post k) = omega arith
    expr_twice (port_in port) = omega arith
    expr_twice (port_out port e) = let h = expr_twice e in omega (arith, h)
    expr_twice (comma a b) = let h = expr_twice a in let g = expr_twice b in omega (arith, h, g)

    exprs_twice : (es : Exprs) → exprs_nodes_of (posting_exprs queue es) ≤ 2 * exprs_nodes_of es
    exprs_twice no_exprs = omega arith
    exprs_twice (more_exprs e rest) = let h = expr_twice e in let g = exprs_twice rest in omega (arith, h, g)

    place_twice : (place : Place) → place_nodes_of (posting_place queue place) ≤ 2 * place_nodes_of place
    place_twice (object k) = omega arith
    place_twice (local x) = omega arith
    place_twice (deref e t) = let h = expr_twice e in omega (arith, h)
    place_twice (index place e) = let h = place_twice place in let g = expr_twice e in omega (arith, h, g)
    place_twice (field place k) = let h = place_twice place in omega (arith, h)

  maybe_twice : (e : Option Expr) → maybe_nodes_of (posting_maybe queue e) ≤ 2 * maybe_nodes_of e
  maybe_twice None = omega arith
  maybe_twice (Some e) = expr_twice e

  mutual
    pub stmt_twice : (s : Stmt) → stmt_nodes_of (posting_stmt queue s) ≤ 2 * stmt_nodes_of s
    stmt_twice (eval e) = let h = expr_twice e in omega (arith, h)
    stmt_twice (block list) = let h = stmts_twice list in omega (arith, h)
    stmt_twice (branch test a b) = let h = expr_twice test in let g = stmt_twice a in let k = stmt_twice b in omega (arith, h, g, k)
    stmt_twice (loop first test step body) = let h = expr_twice test in let g = maybe_twice step in let k = stmt_twice body in omega (arith, h, g, k)
    stmt_twice (switch e cases list) = let h = expr_twice e in let g = stmts_twice list in omega (arith, h, g)
    stmt_twice break = omega arith
    stmt_twice continue = omega arith
    stmt_twice (return e) = let h = maybe_twice e in omega (arith, h)
    stmt_twice (atomic s) = let h = stmt_twice s in omega (arith, h)
    stmt_twice (clear x) = omega arith
    stmt_twice (here arguments first count body) = let h = exprs_twice arguments in let g = stmt_twice body in omega (arith, h, g)

    stmts_twice : (list : Stmts) → stmts_nodes_of (posting_stmts queue list) ≤ 2 * stmts_nodes_of list
    stmts_twice no_stmts = omega arith
    stmts_twice (more_stmts s rest) = let h = stmt_twice s in let g = stmts_twice rest in omega (arith, h, g)

  -- ---- locals that are cleared

  mutual
    pub clears_stay : (s : Stmt) → clears_in (posting_stmt queue s) ≡ clears_in s
    clears_stay (eval e) = refl
    clears_stay (block list) = all_clears_stay list
    clears_stay (branch test a b) = let h = clears_stay a in let g = clears_stay b in omega (arith, h, g)
    clears_stay (loop first test step body) = clears_stay body
    clears_stay (switch e cases list) = all_clears_stay list
    clears_stay break = refl
    clears_stay continue = refl
    clears_stay (return e) = refl
    clears_stay (atomic s) = clears_stay s
    clears_stay (clear x) = refl
    clears_stay (here arguments first count body) = clears_stay body

    all_clears_stay : (list : Stmts) → clears_in_all (posting_stmts queue list) ≡ clears_in_all list
    all_clears_stay no_stmts = refl
    all_clears_stay (more_stmts s rest) = let h = clears_stay s in let g = all_clears_stay rest in omega (arith, h, g)

  -- ---- dereferences

  mutual
    expr_same : (e : Expr) → expr_derefs (posting_expr queue e) ≡ expr_derefs e
    expr_same (const t x) = refl
    expr_same null = refl
    expr_same (read place at) = place_same place
    expr_same (addr place) = place_same place
    expr_same (un op t e) = expr_same e
    expr_same (bin op t a b) = both_same _ _ _ _ (expr_same a) (expr_same b)
    expr_same (convert t e) = expr_same e
    expr_same (offset a b n) = both_same _ _ _ _ (expr_same a) (expr_same b)
    expr_same (distance a b n) = both_same _ _ _ _ (expr_same a) (expr_same b)
    expr_same (both a b) = both_same _ _ _ _ (expr_same a) (expr_same b)
    expr_same (either a b) = both_same _ _ _ _ (expr_same a) (expr_same b)
    expr_same (choice a b c) = both_same _ _ _ _ (both_same _ _ _ _ (expr_same a) (expr_same b)) (expr_same c)
    expr_same (assign place e at) = both_same _ _ _ _ (place_same place) (expr_same e)
    expr_same (update place op t e old at) = both_same _ _ _ _ (place_same place) (expr_same e)
    expr_same (call f arguments at) = exprs_same arguments
    expr_same (post k) = refl
    expr_same (port_in port) = refl
    expr_same (port_out port e) = expr_same e
    expr_same (comma a b) = both_same _ _ _ _ (expr_same a) (expr_same b)

    exprs_same : (es : Exprs) → exprs_derefs (posting_exprs queue es) ≡ exprs_derefs es
    exprs_same no_exprs = refl
    exprs_same (more_exprs e rest) = both_same _ _ _ _ (expr_same e) (exprs_same rest)

    place_same : (place : Place) → place_derefs (posting_place queue place) ≡ place_derefs place
    place_same (object k) = refl
    place_same (local x) = refl
    place_same (deref e t) = ap (λ (ts : List Ty). t ∷ ts) (expr_same e)
    place_same (index place e) = both_same _ _ _ _ (place_same place) (expr_same e)
    place_same (field place k) = place_same place

  maybe_same : (e : Option Expr) → maybe_derefs (posting_maybe queue e) ≡ maybe_derefs e
  maybe_same None = refl
  maybe_same (Some e) = expr_same e

  mutual
    stmt_same : (s : Stmt) → stmt_derefs (posting_stmt queue s) ≡ stmt_derefs s
    stmt_same (eval e) = expr_same e
    stmt_same (block list) = stmts_same list
    stmt_same (branch test a b) = both_same _ _ _ _ (both_same _ _ _ _ (expr_same test) (stmt_same a)) (stmt_same b)
    stmt_same (loop first test step body) = both_same _ _ _ _ (both_same _ _ _ _ (expr_same test) (maybe_same step)) (stmt_same body)
    stmt_same (switch e cases list) = both_same _ _ _ _ (expr_same e) (stmts_same list)
    stmt_same break = refl
    stmt_same continue = refl
    stmt_same (return e) = maybe_same e
    stmt_same (atomic s) = stmt_same s
    stmt_same (clear x) = refl
    stmt_same (here arguments first count body) = both_same _ _ _ _ (exprs_same arguments) (stmt_same body)

    stmts_same : (list : Stmts) → stmts_derefs (posting_stmts queue list) ≡ stmts_derefs list
    stmts_same no_stmts = refl
    stmts_same (more_stmts s rest) = both_same _ _ _ _ (stmt_same s) (stmts_same rest)

  bodies_same : (o : ℕ) (bs : List Body) → flat_map (λ b. stmt_derefs b.code) (map (posting_body queue) bs ++ queue_body o ∷ pop_body o ∷ []) ≡ flat_map (λ b. stmt_derefs b.code) bs
  bodies_same o [] = refl
  bodies_same o (b ∷ bs) = both_same _ _ _ _ (stmt_same b.code) (bodies_same o bs)

  -- ---- lean ones

  works_same : (s : Stmt) → works (posting_stmt queue s) ≡ works s
  works_same (eval e) = refl
  works_same (block list) = refl
  works_same (branch test a b) = refl
  works_same (loop first test step body) = refl
  works_same (switch e cases list) = refl
  works_same break = refl
  works_same continue = refl
  works_same (return e) = refl
  works_same (atomic s) = refl
  works_same (clear x) = refl
  works_same (here arguments first count body) = refl

  working_same : (list : Stmts) → count_working (posting_stmts queue list) ≡ count_working list
  working_same no_stmts = refl
  working_same (more_stmts s rest) = let h = works_same s in let g = working_same rest in omega (arith, h, g)

  mutual
    lean_stmt : (s : Stmt) → IsLeanStmt s → IsLeanStmt (posting_stmt queue s)
    lean_stmt (eval e) few = tt
    lean_stmt (block list) few = lean_stmts list few
    lean_stmt (branch test a b) few = (lean_stmt a few.0, lean_stmt b few.1)
    lean_stmt (loop first test step body) few = lean_stmt body few
    lean_stmt (switch e cases list) few = ((let h = few.0 in let g = working_same list in omega (arith, h, g)), lean_stmts list few.1)
    lean_stmt break few = tt
    lean_stmt continue few = tt
    lean_stmt (return e) few = tt
    lean_stmt (atomic s) few = lean_stmt s few
    lean_stmt (clear x) few = tt
    lean_stmt (here arguments first count body) few = absurd few

    lean_stmts : (list : Stmts) → AreLeanStmts list → AreLeanStmts (posting_stmts queue list)
    lean_stmts no_stmts few = tt
    lean_stmts (more_stmts s rest) few = (lean_stmt s few.0, lean_stmts rest few.1)

abbrev Lean : Body → Type 0
Lean b = IsLeanStmt b.code

queue_lean : (o : ℕ) → IsLeanStmt (queue_code o)
queue_lean o = (tt, (tt, ((tt, tt), ((tt, tt), (tt, (tt, tt))))))

pop_lean : (o : ℕ) → IsLeanStmt (pop_code o)
pop_lean o = (tt, (((tt, (tt, (tt, ((tt, tt), tt)))), tt), (tt, tt)))

bodies_lean : (queue o : ℕ) (bs : List Body) → All Lean bs → All Lean (map (posting_body queue) bs ++ queue_body o ∷ pop_body o ∷ [])
bodies_lean queue o [] h = All-cons Lean (queue_body o) (pop_body o ∷ []) (queue_lean o) (All-cons Lean (pop_body o) [] (pop_lean o) (All-nil Lean))
bodies_lean queue o (b ∷ bs) h =
    All-cons Lean (posting_body queue b) (map (posting_body queue) bs ++ queue_body o ∷ pop_body o ∷ []) (lean_stmt queue b.code (All-head Lean b bs h)) (bodies_lean queue o bs (All-tail Lean b bs h))

pub kernel_is_lean : KernelIsLean
kernel_is_lean p lean = record { bodies = bodies_lean (length p.bodies) (length p.objects) p.bodies lean.bodies }

-- ---- ranges

-- no address of the kernel's bytes is taken
taken_same : (p : Program) → taken_parts (kernel_program p) ≡ taken_parts p
taken_same p = ap (flat_map (parts_of_object p.structs)) (filter-append (λ (o : Object). o.taken) p.objects (bytes_object p ∷ []) ∙ append-nil (filter (λ (o : Object). o.taken) p.objects))

pub ranges_same : (p : Program) → ranges_of (kernel_program p) ≡ ranges_of p
ranges_same p =
    ap (λ (ts : List Ty). sum_by (λ t. length (runs (layout_of p.structs t).size (addresses t (taken_parts (kernel_program p))))) (once ts)) (bodies_same (length p.bodies) (length p.objects) p.bodies)
    ∙ ap (λ (xs : List Part). sum_by (λ t. length (runs (layout_of p.structs t).size (addresses t xs))) (once (derefs p))) (taken_same p)
