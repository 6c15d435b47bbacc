-- Inlined calls: those that a body has, and where their locals are named (own).
use Rattle.std.specs.Prelude.{◌≡◌, ℕ, ◌+◌, ◌≤◌, ◌<◌, ◌==◌, Bool, true, false, ◌||◌, List, [], ◌∷◌, ◌++◌, Option, Some, None}
use Rattle.std.specs.List.{count_by}
use Rattle.nesc_core.specs.Plain.{Expr, const, null, read, addr, un, bin, convert, offset, distance, both, either, choice, assign, update, call, post, port_in, port_out, comma, Exprs, no_exprs, more_exprs, Place, object, local, deref, index, field, Stmt, eval, block, branch, loop, switch, break, continue, return, atomic, clear, here, Stmts, no_stmts, more_stmts}

-- ---- the locals that are named, each as often as it is

abbrev mutual
  pub expr_locals : Expr → List ℕ
  expr_locals (const t x) = []
  expr_locals null = []
  expr_locals (read place at) = place_locals place
  expr_locals (addr place) = place_locals place
  expr_locals (un op t e) = expr_locals e
  expr_locals (bin op t a b) = expr_locals a ++ expr_locals b
  expr_locals (convert t e) = expr_locals e
  expr_locals (offset a b n) = expr_locals a ++ expr_locals b
  expr_locals (distance a b n) = expr_locals a ++ expr_locals b
  expr_locals (both a b) = expr_locals a ++ expr_locals b
  expr_locals (either a b) = expr_locals a ++ expr_locals b
  expr_locals (choice a b c) = expr_locals a ++ expr_locals b ++ expr_locals c
  expr_locals (assign place e at) = place_locals place ++ expr_locals e
  expr_locals (update place op t e old at) = place_locals place ++ expr_locals e
  expr_locals (call f arguments at) = exprs_locals arguments
  expr_locals (post k) = []
  expr_locals (port_in port) = []
  expr_locals (port_out port e) = expr_locals e
  expr_locals (comma a b) = expr_locals a ++ expr_locals b

  pub exprs_locals : Exprs → List ℕ
  exprs_locals no_exprs = []
  exprs_locals (more_exprs e rest) = expr_locals e ++ exprs_locals rest

  pub place_locals : Place → List ℕ
  place_locals (object k) = []
  place_locals (local x) = x ∷ []
  place_locals (deref e t) = expr_locals e
  place_locals (index place e) = place_locals place ++ expr_locals e
  place_locals (field place k) = place_locals place

abbrev pub maybe_locals : Option Expr → List ℕ
maybe_locals None = []
maybe_locals (Some e) = expr_locals e

abbrev mutual
  pub stmt_locals : Stmt → List ℕ
  stmt_locals (eval e) = expr_locals e
  stmt_locals (block list) = stmts_locals list
  stmt_locals (branch e a b) = expr_locals e ++ stmt_locals a ++ stmt_locals b
  stmt_locals (loop first test step body) = expr_locals test ++ maybe_locals step ++ stmt_locals body
  stmt_locals (switch e cases list) = expr_locals e ++ stmts_locals list
  stmt_locals break = []
  stmt_locals continue = []
  stmt_locals (return e) = maybe_locals e
  stmt_locals (atomic s) = stmt_locals s
  stmt_locals (clear x) = x ∷ []
  stmt_locals (here arguments first count body) = exprs_locals arguments ++ stmt_locals body

  pub stmts_locals : Stmts → List ℕ
  stmts_locals no_stmts = []
  stmts_locals (more_stmts s rest) = stmt_locals s ++ stmts_locals rest

-- ---- inlined calls

-- some statement returns a value, those of inlined calls left out
abbrev mutual
  pub gives_value : Stmt → Bool
  gives_value (eval e) = false
  gives_value (block list) = some_gives_value list
  gives_value (branch test a b) = gives_value a || gives_value b
  gives_value (loop first test step body) = gives_value body
  gives_value (switch e cases list) = some_gives_value list
  gives_value break = false
  gives_value continue = false
  gives_value (return None) = false
  gives_value (return (Some e)) = true
  gives_value (atomic s) = gives_value s
  gives_value (clear x) = false
  gives_value (here arguments first count body) = false

  pub some_gives_value : Stmts → Bool
  some_gives_value no_stmts = false
  some_gives_value (more_stmts s rest) = gives_value s || some_gives_value rest

-- an inlined call, and the locals that the statement behind it names
pub record Inlined : Type 0 where
  pub first : ℕ
  pub count : ℕ
  pub code : Stmt
  pub behind : List ℕ

abbrev pub first_locals : Stmts → List ℕ
first_locals no_stmts = []
first_locals (more_stmts s rest) = stmt_locals s

-- those in a statement; the locals of the one behind it
abbrev mutual
  pub heres : Stmt → (behind : List ℕ) → List Inlined
  heres (eval e) = λ behind. []
  heres (block list) = λ behind. all_heres list
  heres (branch e a b) = λ behind. heres a [] ++ heres b []
  heres (loop first test step body) = λ behind. heres body []
  heres (switch e cases list) = λ behind. all_heres list
  heres break = λ behind. []
  heres continue = λ behind. []
  heres (return e) = λ behind. []
  heres (atomic s) = λ behind. heres s []
  heres (clear x) = λ behind. []
  heres (here arguments first count body) = λ behind.
      record { first = first; count = count; code = body; behind = behind } ∷ heres body []

  pub all_heres : Stmts → List Inlined
  all_heres no_stmts = []
  all_heres (more_stmts s rest) = heres s (first_locals rest) ++ all_heres rest

abbrev pub times : ℕ → List ℕ → ℕ
times x xs = count_by (λ y. y == x) xs

-- the whole names the inlined call's locals in its code alone, and that of its result in the statement behind it too
pub record IsAlone (whole : Stmt) (h : Inlined) : Type 0 where
  pub locals : (x : ℕ) → h.first ≤ x → x < h.first + h.count → times x (stmt_locals whole) ≡ times x (stmt_locals h.code)
  pub result : gives_value h.code ≡ true
      → times (h.first + h.count) (stmt_locals whole) ≤ times (h.first + h.count) (stmt_locals h.code) + times (h.first + h.count) h.behind
