-- The instances and pairs of what the files of an application hold, or its first refusal: creation comes first, then what is told of
-- types and constants, then wires (own: the order of the phases).
use Rattle.std.specs.Prelude.{ℕ, List, Option, Some, None, unwrap_or, slice_get, codes, Result, Ok, Err}
use Rattle.nm_base.specs.declared.pos.Pos.{Pos}
use Rattle.nm_base.specs.declared.fault.Fault.{Fault}
use Rattle.wire_instances.specs.declared.plan.Made.{Made}
use Rattle.wire_units.specs.declared.loaded.Loaded.{Loaded}
use Rattle.wire_units.specs.Units.{number_of}
use Rattle.wire_units.specs.Plans.{created_of}
use Rattle.wire_pairs.specs.declared.facts.InstanceFacts.{InstanceFacts}
use Rattle.wire_pairs.specs.declared.ends.Pair.{Pair}
use Rattle.wire_pairs.specs.Pairs.{pairs_of}
use Rattle.wire_phases.specs.Faults.{creation_fault, wire_fault, or_fault}

abbrev pub Phase : Type 0 → Type 0
Phase A = Result A Fault

infixl 10 ◌>>=◌
abbrev pub ◌>>=◌ : {A B : Type 0} → Phase A → (A → Phase B) → Phase B
(Ok x) >>= next = next x
(Err e) >>= next = Err e

-- what is told of the types and constants of instances
abbrev pub Telling : Type 0
Telling = List Loaded → List Made → Phase (List InstanceFacts)

-- an application, phase by phase
pub record Wired : Type 0 where
  pub units : List Loaded
  pub made : List Made
  pub facts : List InstanceFacts
  pub pairs : List Pair

abbrev pub wired : List Loaded → List Made → List InstanceFacts → List Pair → Wired
wired units made facts pairs = record { units = units; made = made; facts = facts; pairs = pairs }

-- the file of the application is the first behind the prelude
abbrev pub application : ℕ
application = 1

abbrev pub place_in : Option Loaded → Pos
place_in None = record { file = 0; line = 1; col = 1 }
place_in (Some u) = u.at

abbrev pub place_of : List Loaded → Pos
place_of units = place_in (slice_get units application)

abbrev pub main_of : List Loaded → ℕ
main_of units = unwrap_or (number_of units (codes "MainC")) 0

abbrev pub created : List Loaded → Phase (List Made)
created units = or_fault creation_fault (created_of units application (place_of units) (main_of units))

abbrev pub linked : List Loaded → List Made → List InstanceFacts → Phase (List Pair)
linked units made facts = or_fault wire_fault (pairs_of (record { units = units; made = made; facts = facts }))

abbrev pub given : List Loaded → List Made → List InstanceFacts → List Pair → Phase Wired
given units made facts pairs = Ok (wired units made facts pairs)

abbrev pub wired_of : Telling → List Loaded → Phase Wired
wired_of tell units = created units >>= λ made. tell units made >>= λ facts. linked units made facts >>= λ pairs. given units made facts pairs
