-- The race report (own, after the treatment of race conditions in Gay et al. 2003).
use Rattle.std.specs.Prelude.{◌≡◌, ℕ, ◌<◌, ◌==◌, ◌⊎◌, Bool, true, false, ◌&&◌, List, [], ◌∷◌, ⊤, Option, Some, None, slice_get}
use Rattle.std.specs.List.{list_any}
use Rattle.nm_base.specs.declared.pos.Pos.{Pos}
use Rattle.nesc_core.specs.Plain.{Ty, Place, object, local, deref, index, field, Object, Program}
use Rattle.nesc_core.specs.Parts.{same_type, parts_of_object}
use Rattle.call_graph.specs.Uses.{Access, uses}
use Rattle.race_checker.specs.declared.row.Row.{Row}
use Rattle.call_graph.specs.Paths.{IsIn, IsBarePath, IsHandlerPath, IsLeast}

-- ---- what an access touches

-- its address is taken, and it has a part of this type
abbrev pub is_pointed_at : Program → Ty → Option Object → Bool
is_pointed_at p t None = false
is_pointed_at p t (Some o) = o.taken && list_any (λ q. same_type q.ty t) (parts_of_object p.structs o)

-- the object that the place begins with, or each one that its pointer may point at
abbrev pub touches : Program → Place → (x : ℕ) → Bool
touches p (object k) x = k == x
touches p (local y) x = false
touches p (deref e t) x = is_pointed_at p t (slice_get p.objects x)
touches p (index place e) x = touches p place x
touches p (field place k) x = touches p place x

-- ---- what is shared

-- some site of this body touches object x
pub record TouchesIn (p : Program) (x f : ℕ) : Type 0 where
  pub node : ℕ
  pub is_inside : Bool
  pub place : Place
  pub pos : Pos
  pub site : IsIn (Access node is_inside place pos) (uses p f)
  pub touched : touches p place x ≡ true

-- an object without `norace` that some site touches which a handler reaches
pub record IsShared (p : Program) (x : ℕ) : Type 0 where
  pub object : Object
  pub is : slice_get p.objects x ≡ Some object
  pub unmarked : object.norace ≡ false
  pub body : ℕ
  pub path : List ℕ
  pub reached : IsHandlerPath p path body
  pub touching : TouchesIn p x body

-- a path of a handler to a body that touches x
abbrev pub IsAsyncPath : Program → (x : ℕ) → List ℕ → Type 0
IsAsyncPath p x path = (f : ℕ) × IsHandlerPath p path f × TouchesIn p x f

-- ---- the rows

-- this site of body f touches x outside every atomic statement
pub record TouchesBare (p : Program) (x f node : ℕ) (pos : Pos) : Type 0 where
  pub place : Place
  pub site : IsIn (Access node false place pos) (uses p f)
  pub touched : touches p place x ≡ true

pub record IsRow (p : Program) (r : Row) : Type 0 where
  pub shared : IsShared p r.object
  pub touching : TouchesBare p r.object r.body r.node r.pos
  pub path : IsLeast (λ path. IsBarePath p path r.body) r.path
  pub async_path : IsLeast (IsAsyncPath p r.object) r.async_path

-- by object, body and node
abbrev pub IsBefore : Row → Row → Type 0
IsBefore r s = (r.object < s.object) ⊎ ((r.object ≡ s.object) × ((r.body < s.body) ⊎ ((r.body ≡ s.body) × (r.node < s.node))))

abbrev pub AreOrdered : List Row → Type 0
AreOrdered [] = ⊤
AreOrdered (r ∷ []) = ⊤
AreOrdered (r ∷ s ∷ rest) = IsBefore r s × AreOrdered (s ∷ rest)

-- a row of this object and site
abbrev pub HasRow : List Row → (x f node : ℕ) → Type 0
HasRow [] x f node = ⊥
HasRow (r ∷ rows) x f node = ((r.object ≡ x) × (r.body ≡ f) × (r.node ≡ node)) ⊎ HasRow rows x f node

pub record IsReport (p : Program) (rows : List Row) : Type 0 where
  pub ordered : AreOrdered rows
  pub only : (r : Row) → IsIn r rows → IsRow p r
  pub all : (x f node : ℕ) (pos : Pos) (path : List ℕ) → IsShared p x → TouchesBare p x f node pos → IsBarePath p path f → HasRow rows x f node
