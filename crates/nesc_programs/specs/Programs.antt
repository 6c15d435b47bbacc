-- What the files of an application give: its wired program, or the first refusal of reading, creation, wires and declarations, in this order
-- (own: the order of the phases).
use Rattle.std.specs.Prelude.{◌≡◌, ◌⊎◌, ℕ, Option, Ok, Err}
use Rattle.nm_base.specs.declared.fault.Fault.{Fault}
use Rattle.nesc_preproc.specs.Sources.{Known}
use Rattle.nesc_preproc.specs.Kept.{name_at}
use Rattle.nesc_core.specs.Plain.{Program}
use Rattle.nesc_types.specs.Rule.{Rule}
use Rattle.wire_reading.specs.Order.{Name}
use Rattle.wire_reading.specs.Told.{Told}
use Rattle.unit_parsing.specs.Parsing.{Declares, Parses}
use Rattle.wire_loading.specs.Opened.{stopped}
use Rattle.nesc_wiring.specs.Loads.{Loads, Wiring}
use Rattle.nesc_elab.specs.Elaborates.{Elaborates}

-- the files give these instances and pairs
abbrev pub HasWiring : Told → Name → Wiring → Type 0
HasWiring told app w = Loads Declares Parses told app (Ok w)

abbrev pub ElaboratesTo : Wiring → Rule Program → Type 0
ElaboratesTo w answer = Elaborates w.wired.units w.wired.made w.wired.pairs answer

-- the wired program of the files, and what the preprocessor knows behind them
pub record IsProgram (told : Told) (app : Name) (program : Program) (known : Option Known) : Type 0 where
  pub wiring : Wiring
  pub loads : HasWiring told app wiring
  pub elaborates : ElaboratesTo wiring (Ok program)
  pub is_known : known ≡ wiring.known

abbrev pub HasProgram : Told → Name → Program → Type 0
HasProgram told app program = (known : Option Known) × IsProgram told app program known

-- the names of the files, in the order of reading
abbrev pub HasNames : Told → Name → (ℕ → Option Name) → Type 0
HasNames told app names = (program : Program) × (known : Option Known) × IsProgram told app program known × (names ≡ name_at known)

-- what is wired is refused so, and this is known then
pub record IsNotElaborated (told : Told) (app : Name) (e : Fault) (known : Option Known) : Type 0 where
  pub wiring : Wiring
  pub loads : HasWiring told app wiring
  pub refused : ElaboratesTo wiring (Err e)
  pub is_known : known ≡ wiring.known

-- why the files have no program, and what is known then
abbrev pub IsStopped : Told → Name → Fault → Option Known → Type 0
IsStopped told app e known = Loads Declares Parses told app (Err (stopped e known)) ⊎ IsNotElaborated told app e known
