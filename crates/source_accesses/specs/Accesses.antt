-- Where the accesses of a body lie (own; that parts of objects are aligned by C99, 6.2.8).
use Rattle.std.specs.Prelude.{⊤, ◌≡◌, ℕ, ℤ, ◌+◌, ◌%◌, ◌≤◌, Bool, true, false, List, [], ◌∷◌, length, Some, slice_get}
use Rattle.nm_base.specs.declared.action.Action.{Action}
use Rattle.nm_base.specs.declared.action.Action.TheVariants.{Load, Store}
use Rattle.nm_base.specs.Behaviour.{Returns, play}
use Rattle.nesc_core.specs.Plain.{Object, Program}
use Rattle.nesc_core.specs.WellFormed.{IsWellFormed}
use Rattle.nesc_core.specs.Weights.{objects_start, objects_end}
use Rattle.core_meaning.specs.Layout.{size_of}
use Rattle.core_meaning.specs.Act.{calls_of}

-- ---- objects

-- from an even address on, among the objects' bytes, all of which a word can name
pub record LiesInData (p : Program) (o : Object) : Type 0 where
  pub from : objects_start ≤ o.addr
  pub even : o.addr % 2 ≡ 0
  pub to : o.addr + size_of p o.ty ≤ objects_end p
  pub end : objects_end p ≤ 65535

abbrev pub ObjectsLieInData : Type 0
ObjectsLieInData = (p : Program) → IsWellFormed p → (k : ℕ) (o : Object) → slice_get p.objects k ≡ Some o → LiesInData p o

-- ---- accesses

-- a word is at an even place
abbrev pub IsAligned : (is_word : Bool) → ℕ → Type 0
IsAligned true x = x % 2 ≡ 0
IsAligned false x = ⊤

abbrev pub bytes : (is_word : Bool) → ℕ
bytes true = 2
bytes false = 1

-- its bytes are those of one object
pub record IsInObject (p : Program) (address : ℕ) (is_word : Bool) : Type 0 where
  pub which : ℕ
  pub object : Object
  pub is : slice_get p.objects which ≡ Some object
  pub from : object.addr ≤ address
  pub to : address + bytes is_word ≤ object.addr + size_of p object.ty
  pub aligned : IsAligned is_word address

abbrev pub IsOfObject : Program → Action → Type 0
IsOfObject p (Load address is_word) = IsInObject p address is_word
IsOfObject p (Store address is_word v) = IsInObject p address is_word
IsOfObject p _ = ⊤

abbrev pub AreOfObjects : Program → List Action → Type 0
AreOfObjects p [] = ⊤
AreOfObjects p (a ∷ rest) = IsOfObject p a × AreOfObjects p rest

-- whatever the body is told, however many turns its loops make, and whatever is made of its result
abbrev pub AccessesAreOfObjects : Type 0
AccessesAreOfObjects =
    (p : Program) → IsWellFormed p → (f : ℕ) (told : ℤ → ℕ) (turns : ℕ) (answers : List ℕ) →
    AreOfObjects p (play (calls_of p (length p.bodies) turns f [] (λ v. Returns (told v))) answers).actions
