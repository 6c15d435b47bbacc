-- The calls of a body are those that are listed with its accesses.
use Rattle.std.proofs.Common.{◌≡◌, ℕ, ◌+◌, Bool, true, List, [], ◌∷◌, ◌++◌, Option, Some, None, refl, sym, ap, ◌∙◌, append_assoc}
use Rattle.std.specs.List.{flat_map}
use Rattle.std.proofs.lemmas.Grind.{flat_map-append}
use Rattle.nm_base.specs.declared.pos.Pos.{Pos}
use Rattle.nesc_core.specs.Plain.{Expr, const, null, read, addr, un, bin, convert, offset, distance, both, either, choice, assign, update, call, post, port_in, port_out, comma, Exprs, no_exprs, more_exprs, Place, object, local, deref, index, field, Stmt, eval, block, branch, loop, switch, break, continue, return, atomic, clear, here, Stmts, no_stmts, more_stmts}
use Rattle.nesc_core.specs.Calls.{expr_calls, exprs_calls, place_calls, maybe_calls, stmt_calls, stmts_calls}
use Rattle.call_graph.specs.Uses.{Use, Access, expr_uses, exprs_uses, place_uses, maybe_uses, stmt_uses, stmts_uses}
use Rattle.call_graph.specs.Paths.{callee}

-- these are the calls that are listed
pub record Same (calls : List ℕ) (us : List Use) : Type 0 where
  pub by : calls ≡ flat_map callee us

none : Same [] []
none = record { by = refl }

two : {a b : List ℕ} {xs ys : List Use} → Same a xs → Same b ys → Same (a ++ b) (xs ++ ys)
two {a} {b} {xs} {ys} h k = record { by = ap (λ z. z ++ b) h.by ∙ ap (λ z. flat_map callee xs ++ z) k.by ∙ sym (flat_map-append callee xs ys) }

three : {a b c : List ℕ} {xs ys zs : List Use} → Same a xs → Same b ys → Same c zs → Same ((a ++ b) ++ c) (xs ++ (ys ++ zs))
three {a} {b} {c} {xs} {ys} {zs} h k l = record { by = append_assoc a b c ∙ (two h (two k l)).by }

site : {a : List ℕ} {us : List Use} (n : ℕ) (i : Bool) (place : Place) (pos : Pos) → Same a us → Same a (Access n i place pos ∷ us)
site n i place pos h = record { by = h.by }

mutual
  expr_same : (e : Expr) (n : ℕ) (i : Bool) → Same (expr_calls e) (expr_uses n i e)
  expr_same (const t x) n i = none
  expr_same null n i = none
  expr_same (read place pos) n i = site n i place pos (place_same place _ i)
  expr_same (addr place) n i = place_same place _ i
  expr_same (un op t e) n i = expr_same e _ i
  expr_same (bin op t a b) n i = two (expr_same a _ i) (expr_same b _ i)
  expr_same (convert t e) n i = expr_same e _ i
  expr_same (offset a b size) n i = two (expr_same a _ i) (expr_same b _ i)
  expr_same (distance a b size) n i = two (expr_same a _ i) (expr_same b _ i)
  expr_same (both a b) n i = two (expr_same a _ i) (expr_same b _ i)
  expr_same (either a b) n i = two (expr_same a _ i) (expr_same b _ i)
  expr_same (choice a b c) n i = three (expr_same a _ i) (expr_same b _ i) (expr_same c _ i)
  expr_same (assign place e pos) n i = site n i place pos (two (place_same place _ i) (expr_same e _ i))
  expr_same (update place op t e old pos) n i = site n i place pos (two (place_same place _ i) (expr_same e _ i))
  expr_same (call f args pos) n i = record { by = ap (λ z. f ∷ z) (exprs_same args (n + 1) i).by }
  expr_same (post k) n i = none
  expr_same (port_in port) n i = none
  expr_same (port_out port e) n i = expr_same e _ i
  expr_same (comma a b) n i = two (expr_same a _ i) (expr_same b _ i)

  exprs_same : (es : Exprs) (n : ℕ) (i : Bool) → Same (exprs_calls es) (exprs_uses n i es)
  exprs_same no_exprs n i = none
  exprs_same (more_exprs e es) n i = two (expr_same e _ i) (exprs_same es _ i)

  place_same : (place : Place) (n : ℕ) (i : Bool) → Same (place_calls place) (place_uses n i place)
  place_same (object k) n i = none
  place_same (local x) n i = none
  place_same (deref e t) n i = expr_same e _ i
  place_same (index place e) n i = two (place_same place _ i) (expr_same e _ i)
  place_same (field place k) n i = place_same place _ i

maybe_same : (e : Option Expr) (n : ℕ) (i : Bool) → Same (maybe_calls e) (maybe_uses n i e)
maybe_same None n i = none
maybe_same (Some e) n i = expr_same e n i

mutual
  pub stmt_same : (s : Stmt) (n : ℕ) (i : Bool) → Same (stmt_calls s) (stmt_uses n i s)
  stmt_same (eval e) n i = expr_same e _ i
  stmt_same (block list) n i = stmts_same list _ i
  stmt_same (branch e a b) n i = three (expr_same e _ i) (stmt_same a _ i) (stmt_same b _ i)
  stmt_same (loop first test step body) n i = three (expr_same test _ i) (maybe_same step _ i) (stmt_same body _ i)
  stmt_same (switch e cases list) n i = two (expr_same e _ i) (stmts_same list _ i)
  stmt_same break n i = none
  stmt_same continue n i = none
  stmt_same (return e) n i = maybe_same e _ i
  stmt_same (atomic s) n i = stmt_same s _ true
  stmt_same (clear k) n i = none
  stmt_same (here args first count body) n i = two (exprs_same args _ i) (stmt_same body _ i)

  stmts_same : (ss : Stmts) (n : ℕ) (i : Bool) → Same (stmts_calls ss) (stmts_uses n i ss)
  stmts_same no_stmts n i = none
  stmts_same (more_stmts s ss) n i = two (stmt_same s _ i) (stmts_same ss _ i)
