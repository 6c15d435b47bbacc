-- What elaboration gives is well formed, and has the type that its rule gives (own).
use Rattle.std.specs.Prelude.{◌≡◌, Bool, List, Option, Ok}
use Rattle.std.specs.List.{All}
use Rattle.nm_base.specs.declared.pos.Pos.{Pos}
use Rattle.nesc_core.specs.Plain.{Ty, Field, Program, int, const}
use Rattle.nesc_core.specs.Size.{AreSized}
use Rattle.nesc_core.specs.Typing.{Has, IsType, PointsWell}
use Rattle.nesc_tree.specs.Plain as s
use Rattle.nesc_types.specs.Values.{Constant}
use Rattle.elab_meaning.specs.Scope.{Env}
use Rattle.elab_meaning.specs.Elab.{State}
use Rattle.elab_meaning.specs.Convert.{Found, Typed}
use Rattle.elab_meaning.specs.Wired.{constant_in, found, type_of, value}
use Rattle.elab_laws.specs.Known.{Grows, IsClosed, IsPrefix}
use Rattle.elab_laws.specs.Groups.{HasPlainGroups, TypeHasPlainGroups}
use Rattle.elab_laws.specs.Formed.{Belongs, IsValueOf, IsWellFound, KeepsLocals, fields_in}

-- all definitions have ended again, and nothing that was there is changed
pub record Keeps (old new : State) : Type 0 where
  pub closed : IsClosed new
  pub grows : Grows old new

pub record ElaborationIsWellFormed : Type 0 where
  -- the structs are those of a well-formed program
  pub sized : (st : State) → IsClosed st → AreSized (fields_in st.structs)
  pub points : (st : State) → IsClosed st → All (λ (fs : List Field). All (λ (f : Field). PointsWell (fields_in st.structs) f.ty) fs) (fields_in st.structs)
  -- an expression, in each program to which what was elaborated belongs
  pub founds : (p : Program) (types : List Ty) (env : Env) (values : List (Option Constant)) (e : s.Expr) (st new : State) (f : Found)
      → IsClosed st → HasPlainGroups e → found env values e st ≡ Ok (f, new) → Keeps st new × (Belongs p types env values new → IsWellFound p types f × KeepsLocals p st new)
  pub values : (p : Program) (types : List Ty) (env : Env) (values : List (Option Constant)) (e : s.Expr) (st new : State) (v : Typed)
      → IsClosed st → HasPlainGroups e → value env values e st ≡ Ok (v, new) → Keeps st new × (Belongs p types env values new → IsValueOf p types v.expr v.ty × KeepsLocals p st new)
  -- a constant, as a Const of its type
  pub constants : (p : Program) (types : List Ty) (env : Env) (values : List (Option Constant)) (whole : Pos) (e : s.Expr) (evaluated : Bool) (st new : State) (x : Constant)
      → IsClosed st → HasPlainGroups e → constant_in env values whole e evaluated st ≡ Ok (x, new) → Keeps st new × Has p types (const x.0 x.1) (int x.0) × KeepsLocals p st new
  -- a type
  pub types : (env : Env) (values : List (Option Constant)) (at : Pos) (t : s.TypeSpec) (st new : State) (ty : Ty)
      → IsClosed st → TypeHasPlainGroups t → type_of env values at t st ≡ Ok (ty, new)
      → Keeps st new × ((p : Program) → IsPrefix (fields_in new.structs) p.structs → IsType p.structs ty × KeepsLocals p st new)
