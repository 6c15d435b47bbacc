-- An application from its files: they are read, its instances are created, what is told of types and constants is found, its wires
-- are linked, their paths followed, and what its instances lack is looked for; the first phase that refuses something tells it (own: the
-- order of the phases).
use Rattle.std.specs.Prelude.{◌≡◌, List, Option, Result, Ok, Err}
use Rattle.nm_base.specs.declared.fault.Fault.{Fault}
use Rattle.nm_base.specs.declared.fault.Fault.TheVariants as fault
use Rattle.nesc_preproc.specs.Sources.{Known}
use Rattle.wire_reading.specs.Order.{Name}
use Rattle.wire_reading.specs.Told.{Told}
use Rattle.wire_instances.specs.declared.plan.Made.{Made}
use Rattle.wire_units.specs.declared.loaded.Loaded.{Loaded}
use Rattle.wire_loading.specs.declared.stopped.Stopped.{Stopped}
use Rattle.wire_loading.specs.Opened.{Declaring, Held, Parsing, ReadsAs}
use Rattle.wire_pairs.specs.declared.facts.InstanceFacts.{InstanceFacts}
use Rattle.wire_pairs.specs.declared.ends.Pair.{Pair}
use Rattle.wire_facts.specs.Seen.{facts_of}
use Rattle.wire_phases.specs.Wired.{Phase, Telling, Wired, wired}
use Rattle.wire_phases.specs.Closed.{Wires}
use Rattle.elab_application.specs.Given.{application_of}
use Rattle.unwired_items.specs.Unwired.{Reaches}

abbrev pub tells : Telling
tells units made = facts_of (application_of units made)

-- what instances lack comes behind all wires and their paths
abbrev pub WithItems : Phase Wired → Phase Wired → Type 0
WithItems (Ok w) (Ok v) = (v ≡ w) × Reaches w.units w.made w.pairs (Ok tt)
WithItems (Ok w) (Err e) = Reaches w.units w.made w.pairs (Err e)
WithItems (Err e) answer = answer ≡ Err e

-- the instances and pairs of files that lack nothing, or the first refusal of the phases behind reading
abbrev pub IsWired : List Loaded → Phase Wired → Type 0
IsWired units answer = (wires : Phase Wired) × Wires tells units wires × WithItems wires answer

-- what the preprocessor knows behind reading, and the instances and pairs
pub record Wiring : Type 0 where
  pub known : Option Known
  pub wired : Wired

abbrev pub wiring : Option Known → List Loaded → List Made → List InstanceFacts → List Pair → Wiring
wiring known units made facts pairs = record { known = known; wired = wired units made facts pairs }

-- the phases behind reading, which read no file: what is known behind their refusal is what was known before
abbrev pub Behind : Result Held Stopped → Result Wiring Stopped → Type 0
Behind (Ok held) (Ok w) = (w.known ≡ held.known) × IsWired held.units (Ok w.wired)
Behind (Ok held) (Err s) = (s.reading ≡ held.known) × IsWired held.units (Err s.fault)
Behind (Err s) answer = answer ≡ Err s

-- the instances and pairs of an application whose files hold what is told and are parsed so, or its first refusal with what is
-- known there
abbrev pub Loads : Declaring → Parsing → Told → Name → Result Wiring Stopped → Type 0
Loads Declares Parses told app answer = (read : Result Held Stopped) × ReadsAs Declares Parses told app read × Behind read answer

-- no file is missing, and none cannot be read
abbrev pub IsInside : Fault → Type 0
IsInside fault.ReadFault = ⊥
IsInside (fault.Missing name) = ⊥
IsInside _ = Unit {0}
