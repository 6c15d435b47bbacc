-- Names and tags in force, what they name, and what is told to a body (C99, 6.2.1 and 6.2.3).
use Rattle.std.specs.Prelude.{ℕ, suc, ℤ, Bool, true, false, ◌&&◌, nat_eq, if◌then◌else◌, List, [], ◌∷◌, fold, drop, Option, Some, None, bytes_eq}
use Rattle.nm_base.specs.declared.int_type.IntType.{IntType}
use Rattle.nm_base.specs.declared.pos.Pos.{Pos}
use Rattle.nesc_core.specs.declared.layout.Layout.{Layout}
use Rattle.nesc_core.specs.Plain.{Ty, Field}

-- what an ordinary name names; a task has its place among the tasks
pub data Meaning : Type 0 where
  object : ℕ → Ty → (is_const : Bool) → Meaning
  local : ℕ → Ty → (is_const : Bool) → Meaning
  function : (body : ℕ) (params : List Ty) (result : Ty) → Meaning
  task : ℕ → Meaning
  constant : IntType → ℤ → Meaning
  type : Ty → (is_const : Bool) → Meaning

pub record Entry : Type 0 where
  pub name : List ℕ
  pub meaning : Meaning

-- what a tag names; an enum is an int
pub data Kind : Type 0 where
  a_struct : ℕ → Kind
  an_enum : Kind

pub record Tag : Type 0 where
  pub name : List ℕ
  pub kind : Kind

-- a struct whose definition has ended, with whether each field is const
pub record Struct : Type 0 where
  pub fields : List Field
  pub consts : List Bool
  pub layout : Layout

-- the last declaration of a name hides the others
abbrev pub newer : List ℕ → Option Meaning → Entry → Option Meaning
newer name found e = if bytes_eq e.name name then Some e.meaning else found

abbrev pub lookup : List Entry → List ℕ → Option Meaning
lookup names name = fold (newer name) None names

abbrev pub newer_tag : List ℕ → Option Kind → Tag → Option Kind
newer_tag name found t = if bytes_eq t.name name then Some t.kind else found

abbrev pub lookup_tag : List Tag → List ℕ → Option Kind
lookup_tag tags name = fold (newer_tag name) None tags

-- a scope has the entries from its first on
abbrev pub declares : List Entry → List ℕ → Bool
declares [] name = false
declares (e ∷ es) name = if bytes_eq e.name name then true else declares es name

abbrev pub declares_tag : List Tag → List ℕ → Bool
declares_tag [] name = false
declares_tag (t ∷ ts) name = if bytes_eq t.name name then true else declares_tag ts name

abbrev pub in_scope : (first : ℕ) → List Entry → List ℕ → Bool
in_scope first names name = declares (drop first names) name

abbrev pub tag_in_scope : (first : ℕ) → List Tag → List ℕ → Bool
tag_in_scope first tags name = declares_tag (drop first tags) name

-- ---- fields

-- the number and the type of a field
abbrev pub field_from : (k : ℕ) → List Field → List ℕ → Option (ℕ × Ty)
field_from k [] name = None
field_from k (f ∷ fs) name = if bytes_eq f.name name then Some (k, f.ty) else field_from (suc k) fs name

abbrev pub has_field : List Field → List ℕ → Bool
has_field [] name = false
has_field (f ∷ fs) name = if bytes_eq f.name name then true else has_field fs name

-- ---- what is told to a body

-- a use of `unique`, by its place
pub record Unique : Type 0 where
  pub at : Pos
  pub number : ℕ

-- how often `unique` is used with a text
pub record UniqueCount : Type 0 where
  pub text : List ℕ
  pub count : ℕ

-- a command that may be called or an event that may be signalled: the parameter of its element, and the one body that a call
-- reaches where it has no parameter and one target
pub record Item : Type 0 where
  pub element : List ℕ
  pub name : List ℕ
  pub is_signal : Bool
  pub parameter : Option IntType
  pub params : List Ty
  pub result : Ty
  pub body : Option ℕ

-- the instance, its uses of `unique`, the items of its elements, and the number of the first dispatch body
pub record Env : Type 0 where
  pub instance : ℕ
  pub uniques : List Unique
  pub counts : List UniqueCount
  pub items : List Item
  pub first_dispatch : ℕ

abbrev pub same_place : Pos → Pos → Bool
same_place p q = nat_eq p.file q.file && nat_eq p.line q.line && nat_eq p.col q.col

abbrev pub unique_at : List Unique → Pos → Option ℕ
unique_at [] at = None
unique_at (u ∷ us) at = if same_place u.at at then Some u.number else unique_at us at

abbrev pub count_of : List UniqueCount → List ℕ → Option ℕ
count_of [] text = None
count_of (c ∷ cs) text = if bytes_eq c.text text then Some c.count else count_of cs text

abbrev pub is_item : Item → (element name : List ℕ) → Bool
is_item i element name = bytes_eq i.element element && bytes_eq i.name name

-- the item of an element with its number among the items
abbrev pub item_from : (k : ℕ) → List Item → (element name : List ℕ) → Option (ℕ × Item)
item_from k [] element name = None
item_from k (i ∷ is) element name = if is_item i element name then Some (k, i) else item_from (suc k) is element name
