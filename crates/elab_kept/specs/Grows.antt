-- Elaboration only adds to what a body has so far (own).
use Rattle.std.specs.Prelude.{◌≡◌, ℕ, Bool, List, ◌++◌, Option, Ok}
use Rattle.nm_base.specs.declared.pos.Pos.{Pos}
use Rattle.nesc_core.specs.Plain.{Ty}
use Rattle.nesc_tree.specs.Plain as s
use Rattle.nesc_types.specs.Rule.{Rule}
use Rattle.nesc_types.specs.Values.{Constant}
use Rattle.elab_meaning.specs.Scope.{Env}
use Rattle.elab_meaning.specs.Elab.{Elab, State}
use Rattle.elab_meaning.specs.Convert.{Found, Typed}
use Rattle.elab_meaning.specs.Operators.{Based}
use Rattle.elab_meaning.specs.Wired.{base_of, constant_in, dimensioned, found, lengths, starred, type_of, value}

abbrev pub IsPrefix : {A : Type 0} → List A → List A → Type 0
IsPrefix {A} xs ys = (more : List A) × (ys ≡ xs ++ more)

-- all that was there stays at its place, and the scope that is open stays open
pub record Grows (s t : State) : Type 0 where
  pub names : IsPrefix s.names t.names
  pub tags : IsPrefix s.tags t.tags
  pub structs : IsPrefix s.structs t.structs
  pub locals : IsPrefix s.locals t.locals
  pub taken : IsPrefix s.taken t.taken
  pub asked : IsPrefix s.asked t.asked
  pub first_name : t.first_name ≡ s.first_name
  pub first_tag : t.first_tag ≡ s.first_tag

abbrev pub OnlyAdds : {A : Type 0} → Elab A → Type 0
OnlyAdds {A} work = (s t : State) (x : A) → work s ≡ Ok (x, t) → Grows s t

pub record ElaborationGrows : Type 0 where
  pub founds : (env : Env) (values : List (Option Constant)) (e : s.Expr) → OnlyAdds (found env values e)
  pub values : (env : Env) (values : List (Option Constant)) (e : s.Expr) → OnlyAdds (value env values e)
  pub constants : (env : Env) (values : List (Option Constant)) (whole : Pos) (e : s.Expr) (evaluated : Bool) → OnlyAdds (constant_in env values whole e evaluated)
  pub types : (env : Env) (values : List (Option Constant)) (at : Pos) (t : s.TypeSpec) → OnlyAdds (type_of env values at t)
  pub bases : (env : Env) (values : List (Option Constant)) (at : Pos) (b : s.Base) → OnlyAdds (base_of env values at b)
  pub lengths : (env : Env) (values : List (Option Constant)) (es : s.Exprs) → OnlyAdds (lengths env values es)
  pub stars : (at : Pos) (stars : ℕ) (b : Based) → OnlyAdds (starred at stars b)
  pub arrays : (at : Pos) (t : Ty) (ns : List ℕ) → OnlyAdds (dimensioned at t ns)
