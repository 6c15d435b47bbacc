-- What opening a file gives: its text is expanded, marked, then parsed as it is needed (own: a later need of the other kind finds what the
-- first one asked for).
use Rattle.std.specs.Prelude.{◌≡◌, ℕ, Bool, List, [], ◌∷◌, ◌++◌, codes, Option, Some, None, Result, Ok, Err}
use Rattle.nm_base.specs.declared.pos.Pos.{Pos}
use Rattle.nm_base.specs.declared.token.Token.{Token}
use Rattle.nm_base.specs.declared.fault.Fault.{Fault}
use Rattle.nesc_tree.specs.declared.components.Unit.{Unit as UnitOf}
use Rattle.nesc_tree.specs.declared.components.Part.TheVariants as part
use Rattle.nesc_tree.specs.declared.declarations.Decl.{Decl}
use Rattle.nesc_tree.specs.Sorts.{Names}
use Rattle.nesc_preproc.specs.Sources.{Known, nothing_known}
use Rattle.nesc_preproc.specs.Expands.{Expands}
use Rattle.nesc_left_out.specs.Marks.{marked}
use Rattle.wire_reading.specs.declared.opener.Need.{Need}
use Rattle.wire_reading.specs.Order.{Name, Opening}
use Rattle.wire_reading.specs.Order as order
use Rattle.wire_reading.specs.Told.{Told}
use Rattle.wire_units.specs.declared.loaded.Loaded.{Loaded}
use Rattle.wire_loading.specs.declared.stopped.Stopped.{Stopped}
use Rattle.wire_loading.specs.Needs.{needs_of, file_of}
use Rattle.wire_loading.specs.Places.{name_place, file_told, first_place}

-- what is kept from one file to the next: what the preprocessor knows, the type names in force, and what the files hold
pub record Held : Type 0 where
  pub known : Option Known
  pub names : Names
  pub units : List Loaded

abbrev pub held : Option Known → Names → List Loaded → Held
held known names units = record { known = known; names = names; units = units }

abbrev pub loaded : List Token → UnitOf → Loaded
loaded ts unit = record { unit = unit; at = name_place ts }

abbrev pub Parsing : Type 1
Parsing = (is_interface : Bool) → ℕ → List Token → Name → Names → Names → Result UnitOf Fault → Type 0

-- the tokens of a file as the grammar reads them: `hwevent` behind `@` is no name
abbrev pub Spells : Told → Option Known → Name → Result (List Token) Fault → Option Known → Type 0
Spells told before file (Ok ts) known = (expanded : List Token) × Expands told before file (Ok expanded) known × (ts ≡ marked expanded)
Spells told before file (Err e) known = Expands told before file (Err e) known

-- what is answered and kept behind parsing
abbrev pub Parsed : List Loaded → Option Known → List Token → Names → Result UnitOf Fault → Result (List Need) Fault → Held → Type 0
Parsed units known ts names (Ok unit) found after = (found ≡ Ok (needs_of unit.part)) × (after ≡ held known names (units ++ loaded ts unit ∷ []))
Parsed units known ts names (Err e) found after = (found ≡ Err e) × (after ≡ held known names units)

-- behind expansion
abbrev pub Scanned : Parsing → Held → Need → Option Known → Result (List Token) Fault → Result (List Need) Fault → Held → Type 0
Scanned Parses s need known (Ok ts) found after =
    (names : Names) × (unit : Result UnitOf Fault)
    × Parses need.is_interface (file_told ts known (file_of need.name)) ts need.name s.names names unit
    × Parsed s.units known ts names unit found after
Scanned Parses s need known (Err e) found after = (found ≡ Err e) × (after ≡ held known s.names s.units)

abbrev pub Opens : Parsing → Told → Opening Held
Opens Parses told s need found after =
    (known : Option Known) × (tokens : Result (List Token) Fault)
    × Spells told s.known (file_of need.name) tokens known
    × Scanned Parses s need known tokens found after

-- ---- where reading stops

-- why an application is refused, and what the preprocessor knows there
abbrev pub stopped : Fault → Option Known → Stopped
stopped e known = record { fault = e; reading = known }

-- the answer without what is known
abbrev pub answer_of : {A : Type 0} → Result A Stopped → Result A Fault
answer_of (Ok x) = Ok x
answer_of (Err s) = Err s.fault

-- ---- the prelude, file 0, which declares before all

abbrev pub Declaring : Type 1
Declaring = ℕ → List Token → Names → Names → Result (List Decl) Fault → Type 0

abbrev pub prelude : Name
prelude = codes "prelude"

abbrev pub declared : List Decl → Loaded
declared decls = record { unit = record { decls = decls; part = part.Header }; at = first_place [] }

abbrev pub Declared : Option Known → Names → Result (List Decl) Fault → Result Held Stopped → Type 0
Declared known names (Ok decls) answer = answer ≡ Ok (held known names (declared decls ∷ []))
Declared known names (Err e) answer = answer ≡ Err (stopped e known)

abbrev pub Preluded : Declaring → Option Known → Result (List Token) Fault → Result Held Stopped → Type 0
Preluded Declares known (Ok ts) answer =
    (names : Names) × (decls : Result (List Decl) Fault)
    × Declares (file_told ts known prelude) ts [] names decls × Declared known names decls answer
Preluded Declares known (Err e) answer = answer ≡ Err (stopped e known)

-- what is held behind the prelude, or why it is refused
abbrev pub Begins : Declaring → Told → Result Held Stopped → Type 0
Begins Declares told answer =
    (known : Option Known) × (tokens : Result (List Token) Fault)
    × Spells told (Some nothing_known) prelude tokens known × Preluded Declares known tokens answer

-- ---- an application

abbrev pub main : Name
main = codes "MainC"

-- behind the prelude; where a file is refused, what is known is what is left there
abbrev pub Goes : Parsing → Told → Name → Result Held Stopped → Result Held Stopped → Type 0
Goes Parses told app (Ok s) (Ok after) = order.Reads (Opens Parses told) app main s after
Goes Parses told app (Ok s) (Err e) = (after : Held) × order.Refuses (Opens Parses told) app main s e.fault after × (e.reading ≡ after.known)
Goes Parses told app (Err e) answer = answer ≡ Err e

-- the files of an application, in the order of first need, behind the prelude; or the first that is refused
abbrev pub ReadsAs : Declaring → Parsing → Told → Name → Result Held Stopped → Type 0
ReadsAs Declares Parses told app answer = (first : Result Held Stopped) × Begins Declares told first × Goes Parses told app first answer
