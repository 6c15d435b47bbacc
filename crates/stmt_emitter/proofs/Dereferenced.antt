-- What a well-formed program dereferences has a size and some byte, and its objects lie well.
use Rattle.std.proofs.Common.{ℕ, suc, ◌+◌, ◌≤◌, Bool, true, false, List, [], ◌∷◌, ◌++◌, Option, Some, None, take, drop, arith}
use Rattle.std.specs.Prelude.{if◌then◌else◌, slice_get}
use Rattle.std.specs.List.{All, flat_map, list_any}
use Rattle.std.proofs.lemmas.List.Elements.{All-cons, All-nil}
use Rattle.nm_base.specs.declared.int_type.IntType.{IntType}
use Rattle.nm_base.specs.declared.int_type.IntType.TheVariants.{U16}
use Rattle.nesc_core.specs.declared.tree.BinOp.{BinOp}
use Rattle.nesc_core.specs.declared.tree.BinOp.TheVariants as bin
use Rattle.nesc_core.specs.Plain.{Ty, void, int, pointer, Expr, Exprs, no_exprs, more_exprs, Place, Stmt, Stmts, no_stmts, more_stmts, Field, Object, Body, Program}
use Rattle.nesc_core.specs.Plain as plain
use Rattle.nesc_core.specs.Derefs.{derefs, expr_derefs, exprs_derefs, place_derefs, maybe_derefs, stmt_derefs, stmts_derefs}
use Rattle.nesc_core.specs.Parts.{LiesWell, same_type}
use Rattle.nesc_core.specs.Size.{layout_of}
use Rattle.nesc_core.specs.Typing.{AllHave, Has, IsCallable, IsPlace, IsSecond, IsType, PointsWell}
use Rattle.nesc_core.specs.WellFormed.{Exits, by_return, in_loop, in_switch, by_result, count_exprs, IsDone, IsGiven, IsStmt, AreStmts, IsBody, IsWellFormed, LieFrom}
use Rattle.lower_stmt.specs.Bodies.{checks_of, in_order}

All-append : (P : Ty → Type 0) (a b : List Ty) → All P a → All P b → All P (a ++ b)
All-append P [] b h g = g
All-append P (t ∷ a) b h g = All-cons P t (a ++ b) (h 0 t (omega arith)) (All-append P a b (λ i d lt. h (suc i) d (omega arith)) g)

module _ (p : Program) where
  abbrev IsPointed : Ty → Type 0
  IsPointed t = PointsWell p.structs (pointer t)

  abbrev ArePointed : List Ty → Type 0
  ArePointed ts = All IsPointed ts

  none : ArePointed []
  none = All-nil IsPointed

  both_pointed : (a b : List Ty) → ArePointed a → ArePointed b → ArePointed (a ++ b)
  both_pointed a b h g = All-append IsPointed a b h g

  module _ (types : List Ty) where
    second : (op : BinOp) (t : IntType) (e : Expr) → ((s : Ty) → Has p types e s → ArePointed (expr_derefs e)) → IsSecond op t (Has p types e) → ArePointed (expr_derefs e)
    second bin.Add t e of h = of (int t) h
    second bin.Sub t e of h = of (int t) h
    second bin.Mul t e of h = of (int t) h
    second bin.Div t e of h = of (int t) h
    second bin.Rem t e of h = of (int t) h
    second bin.And t e of h = of (int t) h
    second bin.Or t e of h = of (int t) h
    second bin.Xor t e of h = of (int t) h
    second bin.Shl t e of h = of (int h.0) h.2
    second bin.Shr t e of h = of (int h.0) h.2
    second bin.Eq t e of h = of (int t) h
    second bin.Ne t e of h = of (int t) h
    second bin.Lt t e of h = of (int t) h
    second bin.Le t e of h = of (int t) h

    called_with : (o : Option Body) (Arguments : List Ty → Type 0) (ty : Ty) → IsCallable o Arguments ty → (ts : List Ty) × Arguments ts
    called_with None A ty h = absurd h
    called_with (Some b) A ty h = (take b.params b.locals, h.1)

    mutual
      of_place : (place : Place) → IsPlace p types place → ArePointed (place_derefs place)
      of_place (plain.object k) h = none
      of_place (plain.local x) h = none
      of_place (plain.deref e t) h = All-cons IsPointed t (expr_derefs e) h.0 (of_expr e (pointer t) h.1)
      of_place (plain.index place e) h = both_pointed (place_derefs place) (expr_derefs e) (of_place place h.1) (of_expr e (int h.2.0) h.2.1)
      of_place (plain.field place k) h = of_place place h.1

      of_expr : (e : Expr) (t : Ty) → Has p types e t → ArePointed (expr_derefs e)
      of_expr (plain.const s x) t h = none
      of_expr plain.null t h = none
      of_expr (plain.read place at) t h = of_place place h.2
      of_expr (plain.addr place) t h = of_place place h.2
      of_expr (plain.un op s e) t h = of_expr e (int s) h.2
      of_expr (plain.bin op s a b) t h = both_pointed (expr_derefs a) (expr_derefs b) (of_expr a (int s) h.2) (second op s b (λ u k. of_expr b u k) h.3)
      of_expr (plain.convert s e) t h = of_expr e h.1.0 h.1.1.1
      of_expr (plain.offset a b size) t h = both_pointed (expr_derefs a) (expr_derefs b) (of_expr a t h.1) (of_expr b (int h.2.0) h.2.1)
      of_expr (plain.distance a b size) t h = both_pointed (expr_derefs a) (expr_derefs b) (of_expr a h.1.0 h.1.1.1) (of_expr b h.1.0 h.1.1.2)
      of_expr (plain.both a b) t h = both_pointed (expr_derefs a) (expr_derefs b) (of_expr a h.1.0 h.1.2) (of_expr b h.2.0 h.2.2)
      of_expr (plain.either a b) t h = both_pointed (expr_derefs a) (expr_derefs b) (of_expr a h.1.0 h.1.2) (of_expr b h.2.0 h.2.2)
      of_expr (plain.choice test a b) t h =
          both_pointed (expr_derefs test ++ expr_derefs a) (expr_derefs b) (both_pointed (expr_derefs test) (expr_derefs a) (of_expr test h.0.0 h.0.2) (of_expr a t h.1))
          (of_expr b t h.2)
      of_expr (plain.assign place e at) t h = both_pointed (place_derefs place) (expr_derefs e) (of_place place h.2) (of_expr e t h.3)
      of_expr (plain.update place op s e gives_old at) t h =
          both_pointed (place_derefs place) (expr_derefs e) (of_place place h.2) (second op s e (λ u k. of_expr e u k) h.3)
      of_expr (plain.call f arguments at) t h =
          let c = called_with (slice_get p.bodies f) (AllHave p types arguments) t h in of_exprs arguments c.0 c.1
      of_expr (plain.post k) t h = none
      of_expr (plain.port_in port) t h = none
      of_expr (plain.port_out port e) t h = of_expr e (int U16) h.2
      of_expr (plain.comma a b) t h = both_pointed (expr_derefs a) (expr_derefs b) (of_expr a h.0.0 h.0.1) (of_expr b t h.1)

      of_exprs : (es : Exprs) (ts : List Ty) → AllHave p types es ts → ArePointed (exprs_derefs es)
      of_exprs no_exprs ts h = none
      of_exprs (more_exprs e rest) [] h = absurd h
      of_exprs (more_exprs e rest) (t ∷ ts) h = both_pointed (expr_derefs e) (exprs_derefs rest) (of_expr e t h.0) (of_exprs rest ts h.1)

    done : (e : Option Expr) → IsDone p types e → ArePointed (maybe_derefs e)
    done None h = none
    done (Some e) h = of_expr e h.0 h.1

    given : (e : Option Expr) (t : Ty) → IsGiven p types e t → ArePointed (maybe_derefs e)
    given None t h = none
    given (Some e) t h = of_expr e t h.1

    mutual
      of_stmt : (s : Stmt) (exits : Exits) → IsStmt p types s exits → ArePointed (stmt_derefs s)
      of_stmt (plain.eval e) exits h = of_expr e h.0 h.1
      of_stmt (plain.block list) exits h = of_stmts list exits h
      of_stmt (plain.branch test a b) exits h =
          both_pointed (expr_derefs test ++ stmt_derefs a) (stmt_derefs b) (both_pointed (expr_derefs test) (stmt_derefs a) (of_expr test h.0.0 h.0.2) (of_stmt a exits h.1))
          (of_stmt b exits h.2)
      of_stmt (plain.loop first test step body) exits h =
          both_pointed (expr_derefs test ++ maybe_derefs step) (stmt_derefs body) (both_pointed (expr_derefs test) (maybe_derefs step) (of_expr test h.0.0 h.0.2) (done step h.1))
          (of_stmt body (in_loop exits) h.2)
      of_stmt (plain.switch e cases list) exits h =
          both_pointed (expr_derefs e) (stmts_derefs list) (of_expr e (int h.0.0) h.0.1) (of_stmts list (in_switch exits) h.2)
      of_stmt plain.break exits h = none
      of_stmt plain.continue exits h = none
      of_stmt (plain.return e) exits h = given e exits.gives h
      of_stmt (plain.atomic s) exits h = of_stmt s exits h
      of_stmt (plain.clear x) exits h = none
      of_stmt (plain.here arguments first count body) exits h =
          both_pointed (exprs_derefs arguments) (stmt_derefs body)
          (of_exprs arguments (take (count_exprs arguments) (drop first types)) h.0.passed) (of_stmt body (by_result p types first count) h.1)

      of_stmts : (list : Stmts) (exits : Exits) → AreStmts p types list exits → ArePointed (stmts_derefs list)
      of_stmts no_stmts exits h = none
      of_stmts (more_stmts s rest) exits h = both_pointed (stmt_derefs s) (stmts_derefs rest) (of_stmt s exits h.0) (of_stmts rest exits h.1)

  of_bodies : (bodies : List Body) → All (IsBody p) bodies → ArePointed (flat_map (λ b. stmt_derefs b.code) bodies)
  of_bodies [] h = none
  of_bodies (b ∷ bodies) h =
      both_pointed (stmt_derefs b.code) (flat_map (λ x. stmt_derefs x.code) bodies)
      (of_stmt b.locals b.code (by_return b.result) (h 0 b (omega arith)).code) (of_bodies bodies (λ i d lt. h (suc i) d (omega arith)))

  added : (seen : List Ty) (t : Ty) (b : Bool) → ArePointed seen → IsPointed t → ArePointed (if b then seen else seen ++ t ∷ [])
  added seen t true h one = h
  added seen t false h one = both_pointed seen (t ∷ []) h (All-cons IsPointed t [] one none)

  ordered : (seen ts : List Ty) → ArePointed seen → ArePointed ts → ArePointed (in_order seen ts)
  ordered seen [] h g = h
  ordered seen (t ∷ ts) h g =
      ordered (if list_any (λ u. same_type u t) seen then seen else seen ++ t ∷ []) ts
      (added seen t (list_any (λ u. same_type u t) seen) h (g 0 t (omega arith))) (λ i d lt. g (suc i) d (omega arith))

  pub checks_pointed : IsWellFormed p → All (λ t. PointsWell p.structs (pointer t)) (checks_of p)
  checks_pointed h = ordered [] (derefs p) none (of_bodies p.bodies h.bodies)

-- ---- objects

end_low : (structs : List (List Field)) (end : ℕ) (os : List Object) → LieFrom structs end os → end ≤ 65535
end_low structs end [] h = h
end_low structs end (o ∷ os) h = let rest = end_low structs (o.addr + (layout_of structs o.ty).size) os h.2 in omega (arith, rest, h.0)

pub all_lie : (structs : List (List Field)) (end : ℕ) (os : List Object) → LieFrom structs end os → All (λ o. IsType structs o.ty) os → All (LiesWell structs) os
all_lie structs end [] h types = λ i d below. absurd (omega arith)
all_lie structs end (o ∷ os) h types =
    All-cons (LiesWell structs) o os
    (record { sized = (types 0 o (omega arith)).sized; inside = end_low structs (o.addr + (layout_of structs o.ty).size) os h.2 })
    (all_lie structs (o.addr + (layout_of structs o.ty).size) os h.2 (λ j e low. types (suc j) e (omega arith)))
