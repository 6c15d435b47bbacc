-- What is so of the names, tags and structs in force, at each step of elaboration (own).
use Rattle.std.specs.Prelude.{⊤, ◌⊎◌, ◌≡◌, ℕ, ◌<◌, ◌≤◌, List, [], ◌∷◌, ◌++◌, length, Some, slice_get}
use Rattle.nesc_core.specs.declared.layout.Layout.{Layout}
use Rattle.nesc_core.specs.Plain.{Ty, Field, void, int, pointer, array, struct}
use Rattle.nesc_core.specs.Size.{fields_layout, struct_of_fields, NamesBelow}
use Rattle.nesc_core.specs.Typing.{IsOf}
use Rattle.elab_meaning.specs.Scope as scope
use Rattle.elab_meaning.specs.Scope.{Entry, Kind, Meaning, Struct, Tag, a_struct, an_enum}
use Rattle.elab_meaning.specs.Elab.{State}
use Rattle.elab_meaning.specs.Convert.{layout_in}

abbrev pub Each : {A : Type 0} → (A → Type 0) → List A → Type 0
Each P [] = ⊤
Each P (x ∷ xs) = P x × Each P xs

pub record IsPrefix {A : Type 0} (xs ys : List A) : Type 0 where
  pub more : List A
  pub is : ys ≡ xs ++ more

-- ---- types

pub record HasLayout (structs : List Struct) (t : Ty) : Type 0 where
  pub layout : Layout
  pub is : layout_in structs t ≡ Some layout

pub record HasBytes (structs : List Struct) (t : Ty) : Type 0 where
  pub layout : Layout
  pub is : layout_in structs t ≡ Some layout
  pub some : 0 < layout.size

-- all but void has a layout
abbrev pub IsComplete : List Struct → Ty → Type 0
IsComplete structs void = ⊤
IsComplete structs (int t) = HasLayout structs (int t)
IsComplete structs (pointer t) = HasLayout structs (pointer t)
IsComplete structs (array t n) = HasLayout structs (array t n)
IsComplete structs (struct k) = HasLayout structs (struct k)

-- all that pointers in the type point to takes some byte
abbrev pub PointsIn : List Struct → Ty → Type 0
PointsIn structs void = ⊤
PointsIn structs (int t) = ⊤
PointsIn structs (pointer t) = HasBytes structs t × PointsIn structs t
PointsIn structs (array t n) = PointsIn structs t
PointsIn structs (struct k) = ⊤

abbrev pub IsKnownType : List Struct → Ty → Type 0
IsKnownType structs t = IsComplete structs t × PointsIn structs t

-- the same while definitions of structs of numbers below n may not have ended
abbrev pub IsOpen : ℕ → Ty → Type 0
IsOpen n void = ⊥
IsOpen n (int t) = ⊥
IsOpen n (pointer t) = ⊥
IsOpen n (array t m) = ⊥
IsOpen n (struct k) = k < n

abbrev pub MayPoint : ℕ → List Struct → Ty → Type 0
MayPoint n structs void = ⊤
MayPoint n structs (int t) = ⊤
MayPoint n structs (pointer t) = (HasBytes structs t ⊎ IsOpen n t) × MayPoint n structs t
MayPoint n structs (array t m) = MayPoint n structs t
MayPoint n structs (struct k) = ⊤

-- ---- structs

-- the fields have these layouts, and struct k is in none of them
abbrev pub AreLaid : List Struct → (k : ℕ) → List Field → List Layout → Type 0
AreLaid structs k [] [] = ⊤
AreLaid structs k [] (l ∷ ls) = ⊥
AreLaid structs k (f ∷ fs) [] = ⊥
AreLaid structs k (f ∷ fs) (l ∷ ls) = (layout_in structs f.ty ≡ Some l) × NamesBelow k f.ty × AreLaid structs k fs ls

-- a struct lies as its fields do
pub record IsStruct (structs : List Struct) (k : ℕ) (x : Struct) : Type 0 where
  pub layouts : List Layout
  pub laid : AreLaid structs k x.fields layouts
  pub whole : x.layout ≡ struct_of_fields (fields_layout layouts)
  pub small : x.layout.size ≤ 32767

-- ---- names

abbrev pub IsKnownMeaning : List Struct → Meaning → Type 0
IsKnownMeaning structs (scope.object k t is_const) = IsKnownType structs t
IsKnownMeaning structs (scope.local x t is_const) = IsKnownType structs t
IsKnownMeaning structs (scope.function body params result) = ⊤
IsKnownMeaning structs (scope.task k) = ⊤
IsKnownMeaning structs (scope.constant t x) = IsOf t x
IsKnownMeaning structs (scope.type t is_const) = IsKnownType structs t

abbrev pub NamesStruct : ℕ → Kind → Type 0
NamesStruct n (a_struct k) = k < n
NamesStruct n an_enum = ⊤

-- while definitions of structs of numbers below n may not have ended
pub record IsKnown (n : ℕ) (s : State) : Type 0 where
  pub names : Each (λ (e : Entry). IsKnownMeaning s.structs e.meaning) s.names
  pub tags : Each (λ (t : Tag). NamesStruct n t.kind) s.tags
  pub structs : (k : ℕ) (x : Struct) → slice_get s.structs k ≡ Some x → IsStruct s.structs k x
  pub fields : (k : ℕ) (x : Struct) → slice_get s.structs k ≡ Some x → Each (λ (f : Field). MayPoint n s.structs f.ty) x.fields

-- between expressions, where all definitions have ended
pub record IsClosed (s : State) : Type 0 where
  pub known : IsKnown (length s.structs) s
  pub fields : (k : ℕ) (x : Struct) → slice_get s.structs k ≡ Some x → Each (λ (f : Field). PointsIn s.structs f.ty) x.fields

-- ---- what elaboration adds

-- of names the constants of enums alone
abbrev pub IsConstantMeaning : Meaning → Type 0
IsConstantMeaning (scope.object k t is_const) = ⊥
IsConstantMeaning (scope.local x t is_const) = ⊥
IsConstantMeaning (scope.function body params result) = ⊥
IsConstantMeaning (scope.task k) = ⊥
IsConstantMeaning (scope.constant t x) = ⊤
IsConstantMeaning (scope.type t is_const) = ⊥

pub record AddsConstants (xs ys : List Entry) : Type 0 where
  pub more : List Entry
  pub is : ys ≡ xs ++ more
  pub constants : Each (λ (e : Entry). IsConstantMeaning e.meaning) more

pub record Grows (s t : State) : Type 0 where
  pub names : AddsConstants s.names t.names
  pub tags : IsPrefix s.tags t.tags
  pub structs : IsPrefix s.structs t.structs
  pub locals : IsPrefix s.locals t.locals
  pub taken : IsPrefix s.taken t.taken
  pub asked : IsPrefix s.asked t.asked
