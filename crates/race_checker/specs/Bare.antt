-- Where a report is empty, no run has a bare access to shared data.
use Rattle.std.specs.Prelude.{◌≡◌, ℕ, ◌+◌, ◌<◌, ◌≤◌, Bool, true, false, List, [], ◌∷◌, ◌++◌, Some, None, slice_get}
use Rattle.nm_base.specs.declared.action.Action.{Action}
use Rattle.nm_base.specs.declared.action.Action.TheVariants as action
use Rattle.mote_devices.specs.declared.state.BoardState.{BoardState}
use Rattle.nm_base.specs.declared.pos.Pos.{Pos}
use Rattle.nesc_core.specs.Plain.{Ty, void, int, pointer, array, struct, Object, Body, Program}
use Rattle.nesc_core.specs.Size.{AreSized}
use Rattle.nesc_core.specs.Parts.{LiesWell}
use Rattle.nesc_core.specs.PlaceTypes.{place_type}
use Rattle.core_meaning.specs.Layout.{size_of}
use Rattle.core_meaning.specs.SourceOf.{source_of}
use Rattle.run_meaning.specs.declared.Move.{Move}
use Rattle.run_meaning.specs.declared.Move.TheVariants.{Do}
use Rattle.run_meaning.specs.State.{start, is_inside}
use Rattle.run_meaning.specs.Runs.{after_all, IsRun}
use Rattle.call_graph.specs.Uses.{Access, uses}
use Rattle.call_graph.specs.Paths.{IsIn, IsBarePath}
use Rattle.race_checker.specs.Report.{IsReport, IsShared, TouchesBare}

-- this byte is one of object x
pub record IsByteOf (p : Program) (x address : ℕ) : Type 0 where
  pub object : Object
  pub is : slice_get p.objects x ≡ Some object
  pub from : object.addr ≤ address
  pub below : address < object.addr + size_of p object.ty

-- how many bytes an access has
abbrev pub bytes : (is_word : Bool) → ℕ
bytes true = 2
bytes false = 1

abbrev pub Accesses : Action → (address : ℕ) (is_word : Bool) → Type 0
Accesses (action.Load a w) address is_word = (a ≡ address) × (w ≡ is_word)
Accesses (action.Store a w v) address is_word = (a ≡ address) × (w ≡ is_word)
Accesses _ address is_word = ⊥

-- a number or a pointer
abbrev pub IsScalar : Ty → Type 0
IsScalar void = ⊥
IsScalar (int t) = Unit {0}
IsScalar (pointer t) = Unit {0}
IsScalar (array t n) = ⊥
IsScalar (struct k) = ⊥

-- what every wired program is: its types are sized, its objects lie apart where a word can name them, and its accesses are of
-- numbers and pointers
pub record IsLaidOut (p : Program) : Type 0 where
  pub sized : AreSized p.structs
  pub lies : (x : ℕ) (o : Object) → slice_get p.objects x ≡ Some o → LiesWell p.structs o
  pub apart : (x y a : ℕ) → IsByteOf p x a → IsByteOf p y a → x ≡ y
  pub scalar : (f : ℕ) (b : Body) → slice_get p.bodies f ≡ Some b → (node : ℕ) (i : Bool) (place : _) (pos : _)
      → IsIn (Access node i place pos) (uses p f) → IsScalar (place_type p b.locals place)

-- a site with a bare path touches an object in which all bytes of the access lie
pub record HasBareSite (p : Program) (address : ℕ) (is_word : Bool) : Type 0 where
  pub object : ℕ
  pub body : ℕ
  pub node : ℕ
  pub pos : Pos
  pub path : List ℕ
  pub is_path : IsBarePath p path body
  pub touching : TouchesBare p object body node pos
  pub inside : (at : ℕ) → address ≤ at → at < address + bytes is_word → IsByteOf p object at

-- the base does this access next, outside atomic, in a run
pub record IsBareAccess (p : Program) (b : BoardState) (moves : List Move) (address : ℕ) (is_word : Bool) : Type 0 where
  pub action : Action
  pub access : Accesses action address is_word
  pub run : IsRun (source_of p) b (moves ++ Do action ∷ [])
  pub no_handler : (after_all (source_of p) (start (source_of p) b) moves).handler ≡ None
  pub outside : is_inside (after_all (source_of p) (start (source_of p) b) moves).base ≡ false

-- the access has a byte of object x
abbrev pub Meets : Program → (x address : ℕ) (is_word : Bool) → Type 0
Meets p x address is_word = (at : ℕ) × (address ≤ at) × (at < address + bytes is_word) × IsByteOf p x at

abbrev pub EachBareAccessHasASite : Type 0
EachBareAccessHasASite = (p : Program) → IsLaidOut p → (b : BoardState) (moves : List Move) (address : ℕ) (is_word : Bool)
    → IsBareAccess p b moves address is_word → HasBareSite p address is_word

abbrev pub ReportIsSound : Type 0
ReportIsSound = (p : Program) → IsLaidOut p → IsReport p [] → (b : BoardState) (moves : List Move) (x address : ℕ) (is_word : Bool)
    → IsShared p x → Meets p x address is_word → IsBareAccess p b moves address is_word → ⊥
