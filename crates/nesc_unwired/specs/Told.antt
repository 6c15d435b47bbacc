-- What is told of the elements of a module: the items of their interfaces, and what paths of wires reach from them.
use Rattle.std.specs.Prelude.{ℕ, suc, Bool, true, false, not, ◌&&◌, if◌then◌else◌, List, [], ◌∷◌, ◌++◌, is_some, Option, Some, None, bytes_eq}
use Rattle.std.specs.List.{list_any}
use Rattle.nm_base.specs.declared.int_type.IntType.{IntType}
use Rattle.nm_base.specs.declared.pos.Pos.{Pos}
use Rattle.body_meaning.specs.Tree.{Decl}
use Rattle.program_meaning.specs.Numbers.{implements, place_of}
use Rattle.program_meaning.specs.Heads.{same_flag}

pub record Item : Type 0 where
  pub name : List ℕ
  pub is_event : Bool

-- an element, at its name, with the type of its bracket's parameter
pub record Element : Type 0 where
  pub provides : Bool
  pub name : List ℕ
  pub parameter : Option IntType
  pub items : List Item
  pub at : Pos

-- whether paths of wires reach an implementation, from the element of this number with this value of its parameter, or with any that no
-- wire names
abbrev pub Reach : Type 0
Reach = (element : ℕ) → Option ℕ → Bool

-- calls of used commands and signals of provided events come out of a module; the others are implemented in it
abbrev pub comes_out : Element → Item → Bool
comes_out x y = same_flag x.provides y.is_event

-- an implementation in the module, or a default
abbrev pub has : (element item : List ℕ) → (is_default : Bool) → List Decl → Bool
has element item is_default ds = is_some (place_of (implements element item is_default) ds)

-- ---- items that a module must implement; one of the wrong kind counts as present

abbrev pub lacks : List Decl → Element → Item → Bool
lacks ds x y = not (comes_out x y) && not (has x.name y.name false ds)

abbrev pub lacking_in : List Decl → Element → List Pos
lacking_in ds x = if list_any (lacks ds x) x.items then x.at ∷ [] else []

abbrev pub lacking : List Decl → List Element → List Pos
lacking ds [] = []
lacking ds (x ∷ xs) = lacking_in ds x ++ lacking ds xs

-- ---- the element of a name

abbrev pub element_from : (k : ℕ) → List Element → (name : List ℕ) → Option (ℕ × Element)
element_from k [] name = None
element_from k (x ∷ xs) name = if bytes_eq x.name name then Some (k, x) else element_from (suc k) xs name

-- an item that comes out and is called, or signalled, as what it is
abbrev pub is_called : Element → (signal : Bool) → (item : List ℕ) → Item → Bool
is_called x signal item y = bytes_eq y.name item && (same_flag y.is_event signal && comes_out x y)
