-- Each call in a well-formed program names a body.
use Rattle.std.proofs.Common.{◌≡◌, ℕ, ◌<◌, false, ◌⊎◌, inl, inr, List, [], ◌∷◌, ◌++◌, length, take, Option, Some, None, refl, sym, subst}
use Rattle.std.specs.Prelude.{slice_get}
use Rattle.std.specs.List.{flat_map}
use Rattle.std.proofs.lemmas.Option.{slice_get_within, get_or_from_slice_get}
use Rattle.nm_base.specs.declared.int_type.IntType.{IntType}
use Rattle.nesc_core.specs.declared.tree.BinOp.{BinOp}
use Rattle.nesc_core.specs.declared.tree.BinOp.TheVariants.{Shl, Shr}
use Rattle.nesc_core.specs.Plain.{Ty, int, pointer, Expr, const, null, read, addr, un, bin, convert, offset, distance, both, either, choice, assign, update, call, post, port_in, port_out, comma, Exprs, no_exprs, more_exprs, Place, object, local, deref, index, field, Stmt, eval, block, branch, loop, switch, break, continue, return, atomic, clear, here, Stmts, no_stmts, more_stmts, Body, Program}
use Rattle.nesc_core.specs.Typing.{IsSecond, IsCallable, IsPlace, Has, AllHave}
use Rattle.nesc_core.specs.Calls.{expr_calls, exprs_calls, place_calls, maybe_calls, stmt_calls, stmts_calls}
use Rattle.nesc_core.specs.WellFormed.{Exits, in_loop, in_switch, by_result, by_return, IsDone, IsGiven, IsStmt, AreStmts, IsBody, IsWellFormed}
use Rattle.call_graph.specs.Paths.{IsIn, callee}
use Rattle.call_graph.specs.Uses.{uses_of}
use Rattle.call_graph.specs.Named.{EachCallNamesABody}
use Rattle.call_graph.proofs.Lists.{in_either}
use Rattle.call_graph.proofs.SameCalls.{stmt_same}

-- these name bodies
record AreNamed (p : Program) (calls : List ℕ) : Type 0 where
  pub by : (g : ℕ) → IsIn g calls → g < length p.bodies

second : (op : BinOp) (t : IntType) (P : Ty → Type 0) → IsSecond op t P → (s : Ty) × P s
second Shl t P h = (int h.0, h.2)
second Shr t P h = (int h.0, h.2)
second _ t P h = (int t, h)

callable : (p : Program) (f : ℕ) (P : List Ty → Type 0) (t : Ty) (o : Option Body) → slice_get p.bodies f ≡ o → IsCallable o P t → (f < length p.bodies) × (ts : List Ty) × P ts
callable p f P t None is h = absurd h
callable p f P t (Some b) is h = (slice_get_within p.bodies f b is, take b.params b.locals, h.1)

module _ (p : Program) where
  none : AreNamed p []
  none = record { by = λ g there. absurd there }

  first : {xs : List ℕ} (f : ℕ) → f < length p.bodies → AreNamed p xs → AreNamed p (f ∷ xs)
  first {xs} f inside rest = record { by = λ g there. at g there }
    where
      at : (g : ℕ) → IsIn g (f ∷ xs) → g < length p.bodies
      at g (inl same) = subst (λ k. k < length p.bodies) (sym same) inside
      at g (inr there) = rest.by g there

  two : {xs ys : List ℕ} → AreNamed p xs → AreNamed p ys → AreNamed p (xs ++ ys)
  two {xs} {ys} h k = record { by = λ g there. at g (in_either g xs ys there) }
    where
      at : (g : ℕ) → IsIn g xs ⊎ IsIn g ys → g < length p.bodies
      at g (inl there) = h.by g there
      at g (inr there) = k.by g there

  module _ (types : List Ty) where
    mutual
      expr_named : (e : Expr) (t : Ty) → Has p types e t → AreNamed p (expr_calls e)
      expr_named (const s x) t h = none
      expr_named null t h = none
      expr_named (read place at) t h = place_named place h.2
      expr_named (addr place) t h = place_named place h.2
      expr_named (un op s e) t h = expr_named e (int s) h.2
      expr_named (bin op s a b) t h = let k = second op s (Has p types b) h.3 in two (expr_named a (int s) h.2) (expr_named b k.0 k.1)
      expr_named (convert s e) t h = expr_named e h.1.0 h.1.1.1
      expr_named (offset a b size) t h = two (expr_named a t h.1) (expr_named b (int h.2.0) h.2.1)
      expr_named (distance a b size) t h = two (expr_named a h.1.0 h.1.1.1) (expr_named b h.1.0 h.1.1.2)
      expr_named (both a b) t h = two (expr_named a h.1.0 h.1.2) (expr_named b h.2.0 h.2.2)
      expr_named (either a b) t h = two (expr_named a h.1.0 h.1.2) (expr_named b h.2.0 h.2.2)
      expr_named (choice test a b) t h = two (two (expr_named test h.0.0 h.0.2) (expr_named a t h.1)) (expr_named b t h.2)
      expr_named (assign place e at) t h = two (place_named place h.2) (expr_named e t h.3)
      expr_named (update place op s e old at) t h = let k = second op s (Has p types e) h.3 in two (place_named place h.2) (expr_named e k.0 k.1)
      expr_named (call f arguments at) t h =
          let k = callable p f (AllHave p types arguments) t (slice_get p.bodies f) refl h in
          first f k.0 (exprs_named arguments k.1 k.2)
      expr_named (post k) t h = none
      expr_named (port_in port) t h = none
      expr_named (port_out port e) t h = expr_named e _ h.2
      expr_named (comma a b) t h = two (expr_named a h.0.0 h.0.1) (expr_named b t h.1)

      exprs_named : (es : Exprs) (ts : List Ty) → AllHave p types es ts → AreNamed p (exprs_calls es)
      exprs_named no_exprs ts h = none
      exprs_named (more_exprs e rest) [] h = absurd h
      exprs_named (more_exprs e rest) (t ∷ ts) h = two (expr_named e t h.0) (exprs_named rest ts h.1)

      place_named : (place : Place) → IsPlace p types place → AreNamed p (place_calls place)
      place_named (object k) h = none
      place_named (local k) h = none
      place_named (deref e t) h = expr_named e (pointer t) h.1
      place_named (index place e) h = two (place_named place h.1) (expr_named e (int h.2.0) h.2.1)
      place_named (field place k) h = place_named place h.1

    done_named : (e : Option Expr) → IsDone p types e → AreNamed p (maybe_calls e)
    done_named None h = none
    done_named (Some e) h = expr_named e h.0 h.1

    given_named : (e : Option Expr) (t : Ty) → IsGiven p types e t → AreNamed p (maybe_calls e)
    given_named None t h = none
    given_named (Some e) t h = expr_named e t h.1

    mutual
      stmt_named : (s : Stmt) (x : Exits) → IsStmt p types s x → AreNamed p (stmt_calls s)
      stmt_named (eval e) x h = expr_named e h.0 h.1
      stmt_named (block list) x h = stmts_named list x h
      stmt_named (branch e a b) x h = two (two (expr_named e h.0.0 h.0.2) (stmt_named a x h.1)) (stmt_named b x h.2)
      stmt_named (loop at_first test step body) x h = two (two (expr_named test h.0.0 h.0.2) (done_named step h.1)) (stmt_named body (in_loop x) h.2)
      stmt_named (switch e cases list) x h = two (expr_named e (int h.0.0) h.0.1) (stmts_named list (in_switch x) h.2)
      stmt_named break x h = none
      stmt_named continue x h = none
      stmt_named (return e) x h = given_named e x.gives h
      stmt_named (atomic s) x h = stmt_named s x h
      stmt_named (clear k) x h = none
      stmt_named (here arguments at count body) x h = two (exprs_named arguments _ h.0.passed) (stmt_named body (by_result p types at count) h.1)

      stmts_named : (list : Stmts) (x : Exits) → AreStmts p types list x → AreNamed p (stmts_calls list)
      stmts_named no_stmts x h = none
      stmts_named (more_stmts s rest) x h = two (stmt_named s x h.0) (stmts_named rest x h.1)

  body_named : (b : Body) → IsBody p b → AreNamed p (stmt_calls b.code)
  body_named b is = stmt_named b.locals b.code (by_return b.result) is.code

  at_body : (f : ℕ) (o : Option Body) → slice_get p.bodies f ≡ o → IsWellFormed p → (g : ℕ) → IsIn g (flat_map callee (uses_of o)) → g < length p.bodies
  at_body f None is well g there = absurd there
  at_body f (Some b) is well g there =
      let body : IsBody p b = subst (IsBody p) (get_or_from_slice_get p.bodies f b b is) (well.bodies f b (slice_get_within p.bodies f b is)) in
      (body_named b body).by g (subst (IsIn g) (sym (stmt_same b.code 0 false).by) there)

pub each_call_is_named : EachCallNamesABody
each_call_is_named p well f g there = at_body p f (slice_get p.bodies f) refl well g there
