-- What is told, cut where the code is cut (own).
use Rattle.std.specs.Prelude.{ℕ, Bool, true, false, cond, List, Option, Some, None, Ok, Err, option_and_then, slice_get}
use Rattle.nm_base.specs.declared.fault.Fault.{Fault}
use Rattle.nm_base.specs.declared.fault.Fault.TheVariants as fault
use Rattle.nesc_types.specs.Rule.{Rule}
use Rattle.elab_meaning.specs.Elab.{State}
use Rattle.wire_facts.specs.Components as components
use Rattle.wire_facts.specs.Components.{Component}
use Rattle.wire_facts.specs.Scopes.{Base, base_of}
use Rattle.wire_facts.specs.Seen.{Application, Course, Seen, Sight, Survey, Told, all_told, headers_declared, instance_told, nowhere, sight, singles_specified, with_lines}
use Rattle.wire_instances.specs.declared.plan.Made.{Made}
use Rattle.wire_units.specs.declared.loaded.Loaded.{Loaded}
use Rattle.wire_told.specs.declared.sources.Sources.{Sources}

-- ---- components

abbrev pub file_of : Sources → (instance : ℕ) → Option Loaded
file_of s instance = option_and_then (λ (m : Made). slice_get s.units.now m.component) (slice_get s.made.now instance)

abbrev pub component_in : Option Loaded → Component
component_in None = nowhere
component_in (Some u) = components.component_of u

-- ---- faults

abbrev pub is_memory : Fault → Bool
is_memory fault.NoMemory = true
is_memory _ = false

-- ---- brackets

abbrev pub state_when : (goes_on : Bool) → State → Option State
state_when goes_on st = cond goes_on (Some st) None

-- ---- instances

-- what is seen with the lines of an instance, and the course behind it
abbrev pub told_in : (instance : ℕ) → Told → Sight
told_in i t = sight (with_lines i t.lines t.seen) t.course

abbrev pub instance_seen : Application → Base → (instance : ℕ) → List Seen → Course → Sight
instance_seen app b i seen c = told_in i (instance_told app b i seen c)

-- ---- all of it, behind what was seen before

abbrev pub specified_from : Application → Survey → Rule (Unit {0} × State) → Rule Sight
specified_from app x (Ok y) = all_told app (base_of y.1) (singles_specified app (base_of y.1) 0 app.made x y.1)
specified_from app x (Err e) = Err e

abbrev pub sight_from : Application → Survey → State → Rule Sight
sight_from app x s = specified_from app x (headers_declared app.headers app.components s)
