-- Each access of a body lies in an object: expressions, statements and calls.
use Rattle.std.proofs.Common.{◌≡◌, ℕ, ℤ, zero, suc, ◌+◌, Bool, List, [], ◌∷◌, take, drop, Option, Some, None, refl, subst}
use Rattle.std.specs.Prelude.{slice_get, unsigned_abs, if◌then◌else◌}
use Rattle.nm_base.specs.IntType.{wrapped}
use Rattle.nm_base.specs.declared.int_type.IntType.{IntType}
use Rattle.nesc_core.specs.declared.tree.BinOp.{BinOp}
use Rattle.nesc_core.specs.declared.tree.BinOp.TheVariants as op_
use Rattle.nesc_core.specs.Plain.{Ty, Expr, Exprs, Place, Stmt, Stmts, Body, Program, no_exprs, more_exprs, no_stmts, more_stmts, void, int, pointer, array, struct}
use Rattle.nesc_core.specs.Plain as plain
use Rattle.nesc_core.specs.PlaceTypes.{place_type}
use Rattle.nesc_core.specs.Size.{layout_of}
use Rattle.nesc_core.specs.Typing.{AllHave, Has, IsCallable, IsPlace, IsScalar, IsSecond, IsSome, IsUpdated}
use Rattle.nesc_core.specs.WellFormed.{AreStmts, Exits, IsBody, IsDone, IsGiven, IsStmt, by_result, by_return, in_loop, in_switch}
use Rattle.nesc_core.specs.Heres.{gives_value}
use Rattle.nm_base.specs.Behaviour.{Behaviour}
use Rattle.core_meaning.specs.Numbers.{is_zero, binary}
use Rattle.core_meaning.specs.Work.{number_of, give, store, ◌>>◌}
use Rattle.core_meaning.specs.declared.access.Where.{Where}
use Rattle.core_meaning.specs.declared.flow.Flow.TheVariants.{On}
use Rattle.core_meaning.specs.Flow.{result, start_of_value, start_of_default}
use Rattle.core_meaning.specs.Act.{Calls, calls_of, enter, find, value, values, holding, fill, done, returned, run, run_from}
use Rattle.source_accesses.specs.Accesses.{IsInObject}
use Rattle.source_accesses.proofs.Keeps.{Keeps, Goes, CallGoes, Any, then_goes, give_goes, or_fault_goes, tick_goes, out_goes, begin_goes, end_goes, in_goes, post_goes, set_locals_goes, if_goes, tested_goes, call_goes, on_goes, turns_go, from_case_goes}
use Rattle.source_accesses.proofs.Places.{Lies, Objects, object_lies, field_lies, load_goes, store_goes, element_goes, deref_goes}

pub updated_scalar : (op : BinOp) (t : IntType) (ty : Ty) → IsUpdated op t ty → IsScalar ty
updated_scalar op t void h = h
updated_scalar op t (int s) h = tt
updated_scalar op t (pointer s) h = tt
updated_scalar op t (array s n) h = h
updated_scalar op t (struct k) h = h

-- the second operand of an operator has some type
pub second_some : (op : BinOp) (t : IntType) (Has : Ty → Type 0) → IsSecond op t Has → IsSome Has
second_some op_.Shl t Has h = (int h.0, h.2)
second_some op_.Shr t Has h = (int h.0, h.2)
second_some op_.Add t Has h = (int t, h)
second_some op_.Sub t Has h = (int t, h)
second_some op_.Mul t Has h = (int t, h)
second_some op_.Div t Has h = (int t, h)
second_some op_.Rem t Has h = (int t, h)
second_some op_.And t Has h = (int t, h)
second_some op_.Or t Has h = (int t, h)
second_some op_.Xor t Has h = (int t, h)
second_some op_.Eq t Has h = (int t, h)
second_some op_.Ne t Has h = (int t, h)
second_some op_.Lt t Has h = (int t, h)
second_some op_.Le t Has h = (int t, h)

-- the types of the parameters of what is called
pub called_with : (o : Option Body) (Arguments : List Ty → Type 0) (ty : Ty) → IsCallable o Arguments ty → (ts : List Ty) × Arguments ts
called_with None Arguments ty h = absurd h
called_with (Some b) Arguments ty h = (take b.params b.locals, h.1)

module _ (p : Program) (objects : Objects p) (types : List Ty) (calls : Calls) (deeper : (f : ℕ) → CallGoes (IsInObject p) calls f) where
  abbrev Fine : ℕ → Bool → Type 0
  Fine a is_word = IsInObject p a is_word

  abbrev Placed : Place → Where → Type 0
  Placed place w = Lies p (layout_of p.structs (place_type p types place)) w

  mutual
    find_goes : (place : Place) → IsPlace p types place → Goes Fine (Placed place) (find p types calls place)
    find_goes (plain.object k) h = give_goes _ (object_lies p objects k _ refl h)
    find_goes (plain.local x) h = give_goes _ tt
    find_goes (plain.deref e t) h = then_goes (value_goes e (pointer t) h.1) (λ a _. deref_goes p objects t (unsigned_abs a) _ refl)
    find_goes (plain.index place e) h =
        then_goes (find_goes place h.1) (λ w lies. then_goes (value_goes e (int h.2.0) h.2.1) (λ x _. element_goes p objects (place_type p types place) w x h.0 lies))
    find_goes (plain.field place k) h = then_goes (find_goes place h.1) (λ w lies. give_goes _ (field_lies p objects (place_type p types place) k w h.0 lies))

    value_goes : (e : Expr) (ty : Ty) → Has p types e ty → Goes Fine Any (value p types calls e)
    value_goes (plain.const t x) ty h = give_goes _ tt
    value_goes plain.null ty h = give_goes _ tt
    value_goes (plain.read place at) ty h =
        then_goes (find_goes place h.2) (λ w lies. load_goes p objects (place_type p types place) w (subst IsScalar h.0 h.1) lies)
    value_goes (plain.addr place) ty h = then_goes (find_goes place h.2) (λ w _. give_goes _ tt)
    value_goes (plain.un op t e) ty h = then_goes (value_goes e (int t) h.2) (λ x _. give_goes _ tt)
    value_goes (plain.bin op t a c) ty h =
        let second = second_some op t (Has p types c) h.3 in
        then_goes (value_goes a (int t) h.2) (λ x _. then_goes (value_goes c second.0 second.1) (λ y _. or_fault_goes 3 _))
    value_goes (plain.convert t e) ty h = then_goes (value_goes e h.1.0 h.1.1.1) (λ x _. give_goes _ tt)
    value_goes (plain.offset a c size) ty h = then_goes (value_goes a ty h.1) (λ x _. then_goes (value_goes c (int h.2.0) h.2.1) (λ y _. give_goes _ tt))
    value_goes (plain.distance a c size) ty h = then_goes (value_goes a h.1.0 h.1.1.1) (λ x _. then_goes (value_goes c h.1.0 h.1.1.2) (λ y _. give_goes _ tt))
    value_goes (plain.both a c) ty h =
        then_goes (value_goes a h.1.0 h.1.2) (λ x _. if_goes (is_zero x) (give_goes _ tt) (tested_goes (value_goes c h.2.0 h.2.2)))
    value_goes (plain.either a c) ty h =
        then_goes (value_goes a h.1.0 h.1.2) (λ x _. if_goes (is_zero x) (tested_goes (value_goes c h.2.0 h.2.2)) (give_goes _ tt))
    value_goes (plain.choice test a c) ty h =
        then_goes (value_goes test h.0.0 h.0.2) (λ x _. if_goes (is_zero x) (value_goes c ty h.2) (value_goes a ty h.1))
    value_goes (plain.assign place e at) ty h =
        then_goes (find_goes place h.2) (λ w lies. then_goes (value_goes e ty h.3) (λ v _.
        then_goes (store_goes p objects (place_type p types place) w v (subst IsScalar h.0 h.1) lies) (λ _ _. give_goes v tt)))
    value_goes (plain.update place op t e gives_old at) ty h =
        let scalar : IsScalar (place_type p types place) = updated_scalar op t (place_type p types place) (subst (IsUpdated op t) h.0 h.1) in
        let second = second_some op t (Has p types e) h.3 in
        then_goes (find_goes place h.2) (λ w lies.
        then_goes (load_goes p objects (place_type p types place) w scalar lies) (λ old _.
        then_goes (value_goes e second.0 second.1) (λ y _.
        then_goes {g = λ z. let new = wrapped (number_of (place_type p types place)) z in ◌>>◌ (store (place_type p types place) w new) (give (if gives_old then old else new))}
        (or_fault_goes 3 (binary op t (wrapped t old) y)) (λ z _. let new = wrapped (number_of (place_type p types place)) z in
        then_goes (store_goes p objects (place_type p types place) w new scalar lies) (λ _ _. give_goes (if gives_old then old else new) tt)))))
    value_goes (plain.call f arguments at) ty h =
        let with = called_with (slice_get p.bodies f) (AllHave p types arguments) ty h in
        then_goes (values_go arguments with.0 with.1) (λ vs _. then_goes tick_goes (λ _ _. then_goes (call_goes vs (deeper f)) (λ v _. then_goes tick_goes (λ _ _. give_goes v tt))))
    value_goes (plain.post k) ty h = then_goes (post_goes k) (λ x _. give_goes _ tt)
    value_goes (plain.port_in port) ty h = then_goes (in_goes port) (λ x _. give_goes _ tt)
    value_goes (plain.port_out port e) ty h = then_goes (value_goes e (int _) h.2) (λ v _. then_goes (out_goes port _) (λ _ _. give_goes v tt))
    value_goes (plain.comma a c) ty h = then_goes (value_goes a h.0.0 h.0.1) (λ _ _. value_goes c ty h.1)

    values_go : (es : Exprs) (ts : List Ty) → AllHave p types es ts → Goes Fine Any (values p types calls es)
    values_go no_exprs ts h = give_goes _ tt
    values_go (more_exprs e rest) [] h = absurd h
    values_go (more_exprs e rest) (t ∷ ts) h = then_goes (value_goes e t h.0) (λ v _. then_goes (values_go rest ts h.1) (λ vs _. give_goes _ tt))

  module _ (n : ℕ) where
    fill_goes : (first count : ℕ) (vs : List ℤ) → Goes Fine Any (fill p types calls n first count vs)
    fill_goes first count vs = set_locals_goes first (holding p.structs (take count (drop first types)) vs)

    done_goes : (step : Option Expr) → IsDone p types step → Goes Fine Any (done p types calls n step)
    done_goes None h = give_goes tt tt
    done_goes (Some e) h = then_goes (value_goes e h.0 h.1) (λ _ _. give_goes tt tt)

    returned_goes : (e : Option Expr) (t : Ty) → IsGiven p types e t → Goes Fine Any (returned p types calls n e)
    returned_goes None t h = give_goes _ tt
    returned_goes (Some e) t h = value_goes e t h.1

    mutual
      pub run_goes : (s : Stmt) (exits : Exits) → IsStmt p types s exits → Goes Fine Any (run p types calls n s)
      run_goes (plain.eval e) exits h = then_goes (value_goes e h.0 h.1) (λ _ _. give_goes _ tt)
      run_goes (plain.block all) exits h = run_from_goes all exits h zero
      run_goes (plain.branch test x y) exits h =
          then_goes (value_goes test h.0.0 h.0.2) (λ v _. if_goes (is_zero v) (run_goes y exits h.2) (run_goes x exits h.1))
      run_goes (plain.loop first test step body) exits h =
          turns_go n first (value_goes test h.0.0 h.0.2) (run_goes body (in_loop exits) h.2) (done_goes step h.1)
      run_goes (plain.switch e cases all) exits h =
          then_goes (value_goes e (int h.0.0) h.0.1) (λ v _.
          then_goes (from_case_goes (start_of_value cases v) (start_of_default cases) (run_from_goes all (in_switch exits) h.2)) (λ flow _. give_goes _ tt))
      run_goes plain.break exits h = give_goes _ tt
      run_goes plain.continue exits h = give_goes _ tt
      run_goes (plain.return e) exits h = then_goes (returned_goes e exits.gives h) (λ v _. give_goes _ tt)
      run_goes (plain.atomic s) exits h =
          then_goes begin_goes (λ _ _. then_goes (run_goes s exits h) (λ flow _. then_goes end_goes (λ _ _. give_goes flow tt)))
      run_goes (plain.clear x) exits h = then_goes (fill_goes x 1 []) (λ _ _. give_goes On tt)
      run_goes (plain.here arguments first count body) exits h =
          then_goes (values_go arguments _ h.0.passed) (λ vs _. then_goes (fill_goes first count vs) (λ _ _. then_goes tick_goes (λ _ _.
          then_goes (run_goes body (by_result p types first count) h.1) (λ flow _. then_goes tick_goes (λ _ _.
          then_goes (if_goes (gives_value body) (fill_goes (first + count) 1 (result flow ∷ [])) (give_goes tt tt)) (λ _ _. give_goes On tt))))))

      run_from_goes : (all : Stmts) (exits : Exits) → AreStmts p types all exits → (k : ℕ) → Goes Fine Any (run_from p types calls n all k)
      run_from_goes no_stmts exits h k = give_goes _ tt
      run_from_goes (more_stmts s rest) exits h zero =
          then_goes (run_goes s exits h.0) (λ flow _. on_goes flow (run_from_goes rest exits h.1 zero))
      run_from_goes (more_stmts s rest) exits h (suc k) = run_from_goes rest exits h.1 k

-- ---- bodies

module _ (p : Program) (objects : Objects p) (formed : (f : ℕ) (b : Body) → slice_get p.bodies f ≡ Some b → IsBody p b) (n : ℕ) where
  enter_goes : (calls : Calls) → ((f : ℕ) → CallGoes (IsInObject p) calls f) → (f : ℕ) (o : Option Body) → slice_get p.bodies f ≡ o
      → (arguments : List ℤ) (after : ℤ → Behaviour) → ((v : ℤ) → Keeps (IsInObject p) (after v)) → Keeps (IsInObject p) (enter p o calls n arguments after)
  enter_goes calls deeper f None is arguments after h = tt
  enter_goes calls deeper f (Some b) is arguments after h =
      (run_goes p objects b.locals calls deeper n b.code (by_return b.result) (formed f b is).code).by
      (λ flow locals. after (result flow)) (λ flow _ locals. h (result flow)) (holding p.structs b.locals arguments)

  pub calls_go : (depth f : ℕ) → CallGoes (IsInObject p) (calls_of p depth n) f
  calls_go zero f = record { by = λ arguments after h. tt }
  calls_go (suc depth) f = record {
    by = λ arguments after h. enter_goes (calls_of p depth n) (calls_go depth) f (slice_get p.bodies f) refl arguments after h;
  }
