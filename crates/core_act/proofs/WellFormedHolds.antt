-- The bodies of a well-formed program can be evaluated.
use Rattle.std.proofs.Common.{ℕ, suc, ◌+◌, ◌<◌, ◌≤◌, List, [], ◌∷◌, Option, Some, None, All, take, drop, get_or, sym, subst, arith}
use Rattle.std.specs.Prelude.{slice_get}
use Rattle.std.proofs.lemmas.List.Elements.{All-cons}
use Rattle.nm_base.specs.declared.int_type.IntType.{IntType}
use Rattle.nm_base.specs.declared.int_type.IntType.TheVariants.{U16}
use Rattle.nesc_core.specs.declared.tree.BinOp.{BinOp}
use Rattle.nesc_core.specs.declared.tree.BinOp.TheVariants.{Add, Sub, Mul, Div, Rem, And, Or, Xor, Shl, Shr, Eq, Ne, Lt, Le}
use Rattle.nesc_core.specs.Plain.{Ty, void, int, pointer, array, struct, Expr, Exprs, Place, Stmt, Stmts, Field, Object, Body, Program, no_exprs, more_exprs, no_stmts, more_stmts}
use Rattle.nesc_core.specs.Plain as plain
use Rattle.nesc_core.specs.Size.{layout_of}
use Rattle.nesc_core.specs.Typing.{IsType, IsStepped, IsSecond, IsPlace, Has, IsCallable, AllHave}
use Rattle.nesc_core.specs.Parts.{LiesWell}
use Rattle.nesc_core.specs.Weights.{objects_start}
use Rattle.nesc_core.specs.WellFormed.{Exits, by_return, in_loop, in_switch, by_result, count_exprs, IsDone, IsGiven, IsStmt, AreStmts, IsBody, LieFrom, IsWellFormed}
use Rattle.core_act.specs.Evaluable.{Findable, Evaluable, AllEvaluable, MaybeEvaluable, Runnable, AllRunnable, IsRunnable, Holds}

-- what pointers step over has some byte
stepped : (structs : List (List Field)) (size : ℕ) (t : Ty) → IsStepped structs size t → 0 < size
stepped structs size void h = absurd h
stepped structs size (int t) h = absurd h
stepped structs size (pointer t) h = subst (λ k. 0 < k) (sym h.1) h.0.1
stepped structs size (array t n) h = absurd h
stepped structs size (struct k) h = absurd h

module _ (p : Program) (types : List Ty) where
  -- the second operand, where operands of any type are evaluated
  second : (op : BinOp) (t : IntType) (e : Expr) → ((s : Ty) → Has p types e s → Evaluable p types e) → IsSecond op t (Has p types e) → Evaluable p types e
  second Add t e of h = of (int t) h
  second Sub t e of h = of (int t) h
  second Mul t e of h = of (int t) h
  second Div t e of h = of (int t) h
  second Rem t e of h = of (int t) h
  second And t e of h = of (int t) h
  second Or t e of h = of (int t) h
  second Xor t e of h = of (int t) h
  second Shl t e of h = of (int h.0) h.2
  second Shr t e of h = of (int h.0) h.2
  second Eq t e of h = of (int t) h
  second Ne t e of h = of (int t) h
  second Lt t e of h = of (int t) h
  second Le t e of h = of (int t) h

  passed : (o : Option Body) (arguments : Exprs) (t : Ty) → ((ts : List Ty) → AllHave p types arguments ts → AllEvaluable p types arguments)
      → IsCallable o (AllHave p types arguments) t → AllEvaluable p types arguments
  passed None arguments t of h = absurd h
  passed (Some b) arguments t of h = of (take b.params b.locals) h.1

  mutual
    found : (place : Place) → IsPlace p types place → Findable p types place
    found (plain.object k) h = tt
    found (plain.local x) h = tt
    found (plain.deref e t) h = (h.0.0, h.0.1, evaluated e (pointer t) h.1)
    found (plain.index place e) h = (found place h.1, evaluated e (int h.2.0) h.2.1)
    found (plain.field place k) h = (h.0, found place h.1)

    evaluated : (e : Expr) (t : Ty) → Has p types e t → Evaluable p types e
    evaluated (plain.const s x) t h = tt
    evaluated plain.null t h = tt
    evaluated (plain.read place at) t h = found place h.2
    evaluated (plain.addr place) t h = found place h.2
    evaluated (plain.un op s e) t h = evaluated e (int s) h.2
    evaluated (plain.bin op s a b) t h = (evaluated a (int s) h.2, second op s b (λ u k. evaluated b u k) h.3)
    evaluated (plain.convert s e) t h = evaluated e h.1.0 h.1.1.1
    evaluated (plain.offset a b size) t h = (evaluated a t h.1, evaluated b (int h.2.0) h.2.1)
    evaluated (plain.distance a b size) t h = (stepped p.structs size h.1.0 h.1.1.0, evaluated a h.1.0 h.1.1.1, evaluated b h.1.0 h.1.1.2)
    evaluated (plain.both a b) t h = (evaluated a h.1.0 h.1.2, evaluated b h.2.0 h.2.2)
    evaluated (plain.either a b) t h = (evaluated a h.1.0 h.1.2, evaluated b h.2.0 h.2.2)
    evaluated (plain.choice test a b) t h = (evaluated test h.0.0 h.0.2, evaluated a t h.1, evaluated b t h.2)
    evaluated (plain.assign place e at) t h = (found place h.2, evaluated e t h.3)
    evaluated (plain.update place op s e gives_old at) t h = (found place h.2, second op s e (λ u k. evaluated e u k) h.3)
    evaluated (plain.call f arguments at) t h = passed (slice_get p.bodies f) arguments t (λ ts k. all_evaluated arguments ts k) h
    evaluated (plain.post k) t h = tt
    evaluated (plain.port_in port) t h = tt
    evaluated (plain.port_out port e) t h = evaluated e (int U16) h.2
    evaluated (plain.comma a b) t h = (evaluated a h.0.0 h.0.1, evaluated b t h.1)

    all_evaluated : (es : Exprs) (ts : List Ty) → AllHave p types es ts → AllEvaluable p types es
    all_evaluated no_exprs ts h = tt
    all_evaluated (more_exprs e rest) [] h = absurd h
    all_evaluated (more_exprs e rest) (t ∷ ts) h = (evaluated e t h.0, all_evaluated rest ts h.1)

  done : (e : Option Expr) → IsDone p types e → MaybeEvaluable p types e
  done None h = tt
  done (Some e) h = evaluated e h.0 h.1

  given : (e : Option Expr) (t : Ty) → IsGiven p types e t → MaybeEvaluable p types e
  given None t h = tt
  given (Some e) t h = evaluated e t h.1

  mutual
    runs : (s : Stmt) (exits : Exits) → IsStmt p types s exits → Runnable p types s
    runs (plain.eval e) exits h = evaluated e h.0 h.1
    runs (plain.block list) exits h = all_run list exits h
    runs (plain.branch test a b) exits h = (evaluated test h.0.0 h.0.2, runs a exits h.1, runs b exits h.2)
    runs (plain.loop first test step body) exits h = (evaluated test h.0.0 h.0.2, done step h.1, runs body (in_loop exits) h.2)
    runs (plain.switch e cases list) exits h = (evaluated e (int h.0.0) h.0.1, all_run list (in_switch exits) h.2)
    runs plain.break exits h = tt
    runs plain.continue exits h = tt
    runs (plain.return e) exits h = given e exits.gives h
    runs (plain.atomic s) exits h = runs s exits h
    runs (plain.clear x) exits h = tt
    runs (plain.here arguments first count body) exits h =
        (all_evaluated arguments (take (count_exprs arguments) (drop first types)) h.0.passed, runs body (by_result p types first count) h.1)

    all_run : (list : Stmts) (exits : Exits) → AreStmts p types list exits → AllRunnable p types list
    all_run no_stmts exits h = tt
    all_run (more_stmts s rest) exits h = (runs s exits h.0, all_run rest exits h.1)

body_runs : (p : Program) (b : Body) → IsBody p b → IsRunnable p b
body_runs p b h = record { locals = λ i d below. (h.locals i d below).sized; code = runs p b.locals b.code (by_return b.result) h.code }

-- ---- objects

end_low : (structs : List (List Field)) (end : ℕ) (os : List Object) → LieFrom structs end os → end ≤ 65535
end_low structs end [] h = h
end_low structs end (o ∷ os) h = let rest = end_low structs (o.addr + (layout_of structs o.ty).size) os h.2 in omega (arith, rest, h.0)

all_lie : (structs : List (List Field)) (end : ℕ) (os : List Object) → LieFrom structs end os → All (λ o. IsType structs o.ty) os → All (LiesWell structs) os
all_lie structs end [] h types = λ i d below. absurd (omega arith)
all_lie structs end (o ∷ os) h types =
    All-cons (LiesWell structs) o os
    (record { sized = (types 0 o (omega arith)).sized; inside = end_low structs (o.addr + (layout_of structs o.ty).size) os h.2 })
    (all_lie structs (o.addr + (layout_of structs o.ty).size) os h.2 (λ j e low. types (suc j) e (omega arith)))

pub well_formed_holds : (p : Program) → IsWellFormed p → Holds p []
well_formed_holds p h = record {
  structs = h.structs;
  objects = all_lie p.structs objects_start p.objects h.addresses h.objects;
  bodies = λ i d below. body_runs p (get_or p.bodies i d) (h.bodies i d below);
  locals = λ i d below. absurd (omega arith);
}
