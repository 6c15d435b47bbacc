-- Expressions have no arrays and structs, and what an inlined call gives is a number or a pointer.
use Rattle.std.proofs.Common.{◌≡◌, ◌⊎◌, inl, inr, ⊎_elim, ℕ, Bool, true, false, List, Option, Some, None, refl, sym, subst}
use Rattle.std.specs.Prelude.{slice_get, ◌||◌}
use Rattle.nesc_core.specs.Plain.{Ty, void, int, pointer, array, struct, Expr, Stmt, Stmts, no_stmts, more_stmts, Body, Program}
use Rattle.nesc_core.specs.Plain as plain
use Rattle.nesc_core.specs.Heres.{gives_value, some_gives_value}
use Rattle.nesc_core.specs.Typing.{Has, IsCallable, IsPointer, IsResult, IsScalar, IsStepped}
use Rattle.nesc_core.specs.WellFormed.{AreStmts, Exits, IsStmt, IsWellFormed}
use Rattle.lower_expr.specs.Code.{is_void}
use Rattle.lower_expr.proofs.Called.{body_formed}
use Rattle.source_accesses.proofs.Bodies.{updated_scalar}

pub scalar_result : (ty : Ty) → IsScalar ty → IsResult ty
scalar_result void h = absurd h
scalar_result (int t) h = tt
scalar_result (pointer t) h = tt
scalar_result (array t m) h = absurd h
scalar_result (struct j) h = absurd h

pub result_scalar : (ty : Ty) → IsResult ty → is_void ty ≡ false → IsScalar ty
result_scalar void h e = absurd (cc)
result_scalar (int t) h e = tt
result_scalar (pointer t) h e = tt
result_scalar (array t m) h e = absurd h
result_scalar (struct j) h e = absurd h

module _ (p : Program) (formed : IsWellFormed p) (types : List Ty) where
  pointer_result : (ty : Ty) → IsPointer p.structs ty → IsResult ty
  pointer_result void h = absurd h
  pointer_result (int t) h = tt
  pointer_result (pointer t) h = tt
  pointer_result (array t m) h = absurd h
  pointer_result (struct j) h = absurd h

  stepped_result : (size : ℕ) (ty : Ty) → IsStepped p.structs size ty → IsResult ty
  stepped_result size void h = absurd h
  stepped_result size (int t) h = tt
  stepped_result size (pointer t) h = tt
  stepped_result size (array t m) h = absurd h
  stepped_result size (struct j) h = absurd h

  call_result : (f : ℕ) (o : Option Body) (Arguments : List Ty → Type 0) (ty : Ty) → slice_get p.bodies f ≡ o → IsCallable o Arguments ty → IsResult ty
  call_result f None Arguments ty is h = absurd h
  call_result f (Some b) Arguments ty is h = subst IsResult (sym h.0) (body_formed p f b formed is).given

  pub has_result : (e : Expr) (ty : Ty) → Has p types e ty → IsResult ty
  has_result (plain.const t x) ty h = subst IsResult (sym h.0) tt
  has_result plain.null ty h = pointer_result ty h
  has_result (plain.read place at) ty h = scalar_result ty h.1
  has_result (plain.addr place) ty h = subst IsResult (sym h.0) tt
  has_result (plain.un op t e) ty h = subst IsResult (sym h.0) tt
  has_result (plain.bin op t a b) ty h = subst IsResult (sym h.0) tt
  has_result (plain.convert t e) ty h = subst IsResult (sym h.0) tt
  has_result (plain.offset a b size) ty h = stepped_result size ty h.0
  has_result (plain.distance a b size) ty h = subst IsResult (sym h.0) tt
  has_result (plain.both a b) ty h = subst IsResult (sym h.0) tt
  has_result (plain.either a b) ty h = subst IsResult (sym h.0) tt
  has_result (plain.choice test a b) ty h = has_result a ty h.1
  has_result (plain.assign place e at) ty h = scalar_result ty h.1
  has_result (plain.update place op t e gives_old at) ty h = scalar_result ty (updated_scalar op t ty h.1)
  has_result (plain.call f arguments at) ty h = call_result f (slice_get p.bodies f) _ ty refl h
  has_result (plain.post k) ty h = subst IsResult (sym h.0) tt
  has_result (plain.port_in port) ty h = subst IsResult (sym h.0) tt
  has_result (plain.port_out port e) ty h = subst IsResult (sym h.0) tt
  has_result (plain.comma a b) ty h = has_result b ty h.1

  or_cases : (a b : Bool) → (a || b) ≡ true → (a ≡ true) ⊎ (b ≡ true)
  or_cases true b e = inl refl
  or_cases false b e = inr e

  mutual
    pub gives_scalar : (s : Stmt) (exits : Exits) → IsStmt p types s exits → gives_value s ≡ true → IsScalar exits.gives
    gives_scalar (plain.eval e) exits h g = absurd (cc)
    gives_scalar (plain.block list) exits h g = some_gives_scalar list exits h g
    gives_scalar (plain.branch test a b) exits h g = ⊎_elim (λ q. gives_scalar a exits h.1 q) (λ q. gives_scalar b exits h.2 q) (or_cases (gives_value a) (gives_value b) g)
    gives_scalar (plain.loop first test step body) exits h g = gives_scalar body _ h.2 g
    gives_scalar (plain.switch e cases list) exits h g = some_gives_scalar list _ h.2 g
    gives_scalar plain.break exits h g = absurd (cc)
    gives_scalar plain.continue exits h g = absurd (cc)
    gives_scalar (plain.return None) exits h g = absurd (cc)
    gives_scalar (plain.return (Some e)) exits h g = h.0
    gives_scalar (plain.atomic s) exits h g = gives_scalar s exits h g
    gives_scalar (plain.clear x) exits h g = absurd (cc)
    gives_scalar (plain.here arguments first count body) exits h g = absurd (cc)

    some_gives_scalar : (list : Stmts) (exits : Exits) → AreStmts p types list exits → some_gives_value list ≡ true → IsScalar exits.gives
    some_gives_scalar no_stmts exits h g = absurd (cc)
    some_gives_scalar (more_stmts s rest) exits h g = ⊎_elim (λ q. gives_scalar s exits h.0 q) (λ q. some_gives_scalar rest exits h.1 q) (or_cases (gives_value s) (some_gives_value rest) g)
