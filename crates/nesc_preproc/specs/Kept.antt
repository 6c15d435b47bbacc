-- What a reading keeps (own).
use Rattle.std.specs.Prelude.{◌≡◌, ℕ, ◌<◌, Bool, true, false, List, slice_get, Option, Some, None, Result, Ok, Err, Vec}
use Rattle.std.specs.declared.alloc.Global.{Global}
use Rattle.nm_base.specs.declared.token.Token.{Token}
use Rattle.nm_base.specs.declared.fault.Fault.{Fault}
use Rattle.nm_base.specs.declared.fault.Fault.TheVariants as fault
use Rattle.nesc_macros.specs.Invocation.{Name}
use Rattle.nesc_preproc.specs.declared.known.KnownFiles.{KnownFiles}
use Rattle.nesc_preproc.specs.Sources.{Known, World, Opened, is_number}

abbrev pub known_of : KnownFiles → Known
known_of f = record { names = f.files.names; texts = f.files.texts; declared = f.declared.keys; bytes = f.bytes; tokens = f.tokens }

abbrev pub kept : Bool → KnownFiles → Option Known
kept true files = None
kept false files = Some (known_of files)

-- the name of the file of this number
abbrev pub name_at : Option Known → ℕ → Option Name
name_at None file = None
name_at (Some known) file = slice_get known.names file

-- ---- answers of the code, for worlds that the files agree with

-- the files hold what the world says, where they tell it
abbrev pub IsTold : Option (Name → Option (List ℕ)) → World → Type 0
IsTold told world = told ≡ Some world.text_of

-- whether the read of file k fails is what the answer says
abbrev pub Breaks : {A : Type 0} → Result A Fault → Option ℕ → ℕ → Type 0
Breaks (Err fault.ReadFault) broken k = broken ≡ Some k
Breaks _ broken k = is_number broken k ≡ false

-- no read of a file below k fails
abbrev pub BreaksFrom : Option ℕ → ℕ → Type 0
BreaksFrom broken k = (j : ℕ) → j < k → is_number broken j ≡ false

-- the same of an answer behind which there are k files: no read failed, or that of the next file
abbrev pub Allows : {A : Type 0} → Result A Fault → Option ℕ → ℕ → Type 0
Allows (Err fault.ReadFault) broken k = broken ≡ Some k
Allows (Err _) broken k = broken ≡ None
Allows (Ok _) broken k = BreaksFrom broken k

-- the answer is no fault of a read
abbrev pub IsNoReadFault : {A : Type 0} → Result A Fault → Type 0
IsNoReadFault (Err fault.ReadFault) = ⊥
IsNoReadFault (Err (fault.Missing name)) = ⊥
IsNoReadFault _ = Unit {0}

abbrev pub Fetches : Result (Vec ℕ Global) Fault → Option ℕ → ℕ → Result (List ℕ) Fault → Type 0
Fetches (Ok v) broken k found = is_number broken k ≡ false → found ≡ Ok v.items
Fetches (Err fault.NoMemory) broken k found = Unit {0}
Fetches (Err fault.ReadFault) broken k found = broken ≡ Some k → found ≡ Err fault.ReadFault
Fetches (Err e) broken k found = is_number broken k ≡ false → found ≡ Err e

abbrev pub OpenedAs : Result (Vec Token Global) Fault → KnownFiles → Opened → Type 0
OpenedAs (Ok v) known o = o ≡ record { value = Ok v.items; known = known_of known }
OpenedAs (Err fault.NoMemory) known o = Unit {0}
OpenedAs (Err e) known o = o ≡ record { value = Err e; known = known_of known }
