-- Expressions and places that are well formed in a program to which what was elaborated belongs (own; types by C99, 6.5).
use Rattle.std.specs.Prelude.{⊤, ◌≡◌, ℕ, ◌+◌, ◌<◌, List, [], ◌∷◌, ◌++◌, length, map, take, Option, Some, None, slice_get, slice_index_or}
use Rattle.nm_base.specs.declared.int_type.IntType.{IntType}
use Rattle.nesc_core.specs.Plain.{Ty, Expr, Exprs, Place, Field, Body, Program, void, int, pointer, array, struct}
use Rattle.nesc_core.specs.Plain as plain
use Rattle.nesc_core.specs.PlaceTypes.{place_type, object_type}
use Rattle.nesc_core.specs.Typing.{PointsWell, IsType, IsResult, IsOf, IsPointer, IsSome, IsPlace, Has}
use Rattle.nesc_types.specs.Values.{Constant}
use Rattle.elab_meaning.specs.Scope as scope
use Rattle.elab_meaning.specs.Scope.{Entry, Env, Item, Meaning, Struct}
use Rattle.elab_meaning.specs.Elab.{Asked, State}
use Rattle.elab_meaning.specs.Convert.{Found, a_place, a_value, a_copy}
use Rattle.elab_laws.specs.Known.{Each, IsPrefix}

-- ---- what was elaborated belongs to a program

abbrev pub fields_in : List Struct → List (List Field)
fields_in structs = map (λ (x : Struct). x.fields) structs

-- body f takes these arguments and gives this result
pub record IsBodyOf (p : Program) (f : ℕ) (params : List Ty) (result : Ty) : Type 0 where
  pub body : Body
  pub is : slice_get p.bodies f ≡ Some body
  pub passed : take body.params body.locals ≡ params
  pub given : body.result ≡ result
  pub types : Each (λ (t : Ty). IsType p.structs t) params
  pub result_type : IsType p.structs result
  pub result_kind : IsResult result

-- the type of the value that the parameter of the one target gets, and that of the parameter that a call gives
abbrev pub value_type : Option Constant → List Ty
value_type None = []
value_type (Some x) = int x.0 ∷ []

abbrev pub parameter_type : Option IntType → List Ty
parameter_type None = []
parameter_type (Some t) = int t ∷ []

abbrev pub IsValue : Option Constant → Type 0
IsValue None = ⊤
IsValue (Some x) = IsOf x.0 x.1

module _ (p : Program) (types : List Ty) (env : Env) (values : List (Option Constant)) where
  abbrev pub MeaningBelongs : Meaning → Type 0
  MeaningBelongs (scope.object k t is_const) = (k < length p.objects) × (object_type (slice_get p.objects k) ≡ t)
  MeaningBelongs (scope.local x t is_const) = (x < length types) × (slice_index_or types x void ≡ t)
  MeaningBelongs (scope.function body params result) = IsBodyOf p body params result
  MeaningBelongs (scope.task k) = k < length p.tasks
  MeaningBelongs (scope.constant t x) = ⊤
  MeaningBelongs (scope.type t is_const) = ⊤

  -- an item's one target, or the dispatch body that its calls need
  abbrev pub TargetBelongs : (asked : List Asked) → (k : ℕ) → Item → Option ℕ → Type 0
  TargetBelongs asked k i (Some body) =
      IsValue (slice_index_or values k None) × IsBodyOf p body (value_type (slice_index_or values k None) ++ (parameter_type i.parameter ++ i.params)) i.result
  TargetBelongs asked k i None = (j : ℕ) (a : Asked) → slice_get asked j ≡ Some a → a.instance ≡ env.instance → a.item ≡ k
      → IsBodyOf p (env.first_dispatch + j) (parameter_type i.parameter ++ i.params) i.result

  -- what the elaboration of the program's body, whose locals have these types, had so far
  pub record Belongs (s : State) : Type 0 where
    pub structs : IsPrefix (fields_in s.structs) p.structs
    pub locals : IsPrefix s.locals types
    pub names : Each (λ (e : Entry). MeaningBelongs e.meaning) s.names
    pub items : (k : ℕ) (i : Item) → slice_get env.items k ≡ Some i → TargetBelongs s.asked k i i.body

-- locals that were made are of types of the program, where the others are
abbrev pub KeepsLocals : Program → (old new : State) → Type 0
KeepsLocals p old new = Each (λ (t : Ty). IsType p.structs t) old.locals → Each (λ (t : Ty). IsType p.structs t) new.locals

-- ---- what is found is well formed in it

module _ (p : Program) (types : List Ty) where
  -- NULL alone has each type of a pointer
  abbrev pub IsPointerValue : Expr → Ty → Type 0
  IsPointerValue e void = (t : Ty) → IsPointer p.structs t → Has p types e t
  IsPointerValue e (int t) = PointsWell p.structs (pointer (int t)) × Has p types e (pointer (int t))
  IsPointerValue e (pointer t) = PointsWell p.structs (pointer (pointer t)) × Has p types e (pointer (pointer t))
  IsPointerValue e (array t n) = PointsWell p.structs (pointer (array t n)) × Has p types e (pointer (array t n))
  IsPointerValue e (struct k) = PointsWell p.structs (pointer (struct k)) × Has p types e (pointer (struct k))

  -- an expression of the type; what is of a struct's type is a struct's copying, which gives no value
  abbrev pub IsValueOf : Expr → Ty → Type 0
  IsValueOf e void = Has p types e void
  IsValueOf e (int t) = Has p types e (int t)
  IsValueOf e (pointer t) = IsPointerValue e t
  IsValueOf e (array t n) = ⊥
  IsValueOf e (struct k) = IsSome (Has p types e)

  -- the types of a place's indexes, the last first
  abbrev pub HasIndexes : Place → List IntType → Type 0
  HasIndexes (plain.object k) ts = ⊤
  HasIndexes (plain.local x) ts = ⊤
  HasIndexes (plain.deref e t) ts = ⊤
  HasIndexes (plain.index place e) [] = ⊥
  HasIndexes (plain.index place e) (t ∷ ts) = Has p types e (int t) × HasIndexes place ts
  HasIndexes (plain.field place k) ts = HasIndexes place ts

  pub record IsPlaceOf (place : Place) (t : Ty) : Type 0 where
    pub formed : IsPlace p types place
    pub ty : place_type p types place ≡ t
    pub known : IsType p.structs t

  abbrev pub IsWellFound : Found → Type 0
  IsWellFound (a_place place indexes t is_const) = IsPlaceOf place t × HasIndexes place indexes
  IsWellFound (a_value v) = IsValueOf v.expr v.ty
  IsWellFound (a_copy steps place k) = Each (λ (e : Expr). IsSome (Has p types e)) steps × IsPlaceOf place (struct k)
