-- Worked rows: the ends that small wirings reach, which values of a parameter get ends of their own, and what the parameters of a generic
-- component stand for, worked out by hand.
use Rattle.std.specs.Prelude.{◌≡◌, ℕ, pos, Bool, true, false, List, [], ◌∷◌, ◌++◌, filter, codes, Option, Some, None}
use Rattle.nm_base.specs.declared.int_type.IntType.TheVariants.{U8, U16, I16}
use Rattle.nm_base.specs.declared.pos.Pos.{Pos}
use Rattle.nesc_core.specs.Plain.{struct}
use Rattle.nesc_tree.specs.declared.components.Elem.{Elem}
use Rattle.nesc_tree.specs.declared.components.Head.{Head}
use Rattle.nesc_tree.specs.declared.components.Part.{Part}
use Rattle.nesc_tree.specs.declared.components.Part.TheVariants as part
use Rattle.elab_meaning.specs.Scope.{Entry, Meaning, constant, task, type}
use Rattle.wire_facts.specs.Components.{Param}
use Rattle.wire_instances.specs.declared.plan.Made.{Made}
use Rattle.wire_pairs.specs.declared.ends.End as linked
use Rattle.wire_pairs.specs.declared.ends.Pair.{Pair}
use Rattle.wire_paths.specs.Paths.{end}
use Rattle.wire_paths.specs.Wires.{values_of, wires_of}
use Rattle.wire_paths.specs.declared.wires.Way.{Way}
use Rattle.wire_paths.specs.declared.wires.Way.TheVariants as way
use Rattle.wire_targets.specs.declared.end.End.{End}
use Rattle.wire_targets.specs.Targets.{targets_of}
use Rattle.wire_units.specs.declared.loaded.Loaded.{Loaded}
use Rattle.program_meaning.specs.Parts.{a_constant, a_type, Wired}
use Rattle.elab_application.specs.Ends.{leads_elsewhere, parameter_of, sinks_of, values_within}
use Rattle.elab_application.specs.Instances.{copy_of, given, given_in}
use Rattle.elab_application.specs.Views.{wired}

-- ---- four files: a configuration C with an element, a module M that uses an interface, and modules N and O that provide it

abbrev pub here : Pos
here = record { file = 0; line = 1; col = 1 }

abbrev pub elem : (provides : Bool) → Elem
elem provides = record { provides = provides; iface = codes "I"; args = []; name = codes "x"; param = None; pos = here }

abbrev pub head : (provides : Bool) → Head
head provides = record { name = codes "X"; generic = None; elems = elem provides ∷ []; attrs = [] }

abbrev pub holds : Part → Loaded
holds p = record { unit = record { decls = []; part = p }; at = here }

abbrev pub module_with : (provides : Bool) → Loaded
module_with provides = holds (part.Module (record { head = head provides; decls = [] }))

abbrev pub units : List Loaded
units = holds (part.Config (record { head = head true; lines = [] })) ∷ module_with false ∷ module_with true ∷ module_with true ∷ []

-- one instance of each, with its number
abbrev pub of_file : ℕ → Made
of_file k = record { component = k; copy = 0; maker = None }

abbrev pub made : List Made
made = of_file 0 ∷ of_file 1 ∷ of_file 2 ∷ of_file 3 ∷ []

abbrev pub at : ℕ → Option ℕ → linked.End
at instance param = record { instance = instance; element = 0; param = param }

abbrev pub pair : linked.End → linked.End → Pair
pair from to = record { from = from; to = to; pos = here }

-- the ends that are reached by these paths from an end, whose numbers of wires are told
abbrev pub reached : Way → List Pair → End → List (List ℕ) → List End
reached w pairs start paths = targets_of (wires_of w pairs) (sinks_of w units made) start paths

-- ---- wirings

abbrev pub one_wire : List Pair
one_wire = pair (at 1 None) (at 2 None) ∷ []

-- M to N, to O, and to N once more
abbrev pub fan_out : List Pair
fan_out = pair (at 1 None) (at 2 None) ∷ pair (at 1 None) (at 3 None) ∷ pair (at 1 None) (at 2 None) ∷ []

-- M with 3 to N, with 5 to O, and with any value to O with the same; another element's wire names 7
abbrev pub named_values : List Pair
named_values = pair (at 1 (Some 3)) (at 2 (Some 9)) ∷ pair (at 1 (Some 5)) (at 3 (Some 9)) ∷ pair (at 1 None) (at 3 None) ∷ pair (at 0 (Some 7)) (at 2 (Some 1)) ∷ []

-- M with any value to C, and C from there to N; with 4 to O too
abbrev pub passed_on : List Pair
passed_on = pair (at 1 None) (at 0 None) ∷ pair (at 0 None) (at 2 None) ∷ pair (at 0 (Some 4)) (at 3 (Some 1)) ∷ []

-- the ends from M by these paths, where its parameter has the value
abbrev pub from_M : List Pair → Option ℕ → List (List ℕ) → List End
from_M pairs value paths = reached way.Calls pairs (end 1 0 value) paths

abbrev pub own_ends : (others : List End) → List Wired → List Wired
own_ends others found = filter (leads_elsewhere others) found

pub record EndRows : Type 0 where
  pub calls_end : sinks_of way.Calls units made ≡ [] ∷ (false ∷ []) ∷ (true ∷ []) ∷ (true ∷ []) ∷ []
  pub signals_end : sinks_of way.Signals units made ≡ [] ∷ (true ∷ []) ∷ (false ∷ []) ∷ (false ∷ []) ∷ []
  pub one_call : from_M one_wire None ([] ∷ (0 ∷ []) ∷ []) ≡ end 2 0 None ∷ []
  pub one_signal : reached way.Signals one_wire (end 2 0 None) ([] ∷ (0 ∷ []) ∷ []) ≡ end 1 0 None ∷ []
  pub equal_wires : from_M fan_out None ([] ∷ (0 ∷ []) ∷ (1 ∷ []) ∷ (2 ∷ []) ∷ []) ≡ end 2 0 None ∷ end 3 0 None ∷ end 2 0 None ∷ []
  pub two_signals : reached way.Signals fan_out (end 2 0 None) ([] ∷ (0 ∷ []) ∷ (2 ∷ []) ∷ []) ≡ end 1 0 None ∷ end 1 0 None ∷ []
  pub with_three : from_M named_values (Some 3) ([] ∷ (0 ∷ []) ∷ (2 ∷ []) ∷ []) ≡ end 2 0 (Some 9) ∷ end 3 0 (Some 3) ∷ []
  pub with_five : from_M named_values (Some 5) ([] ∷ (1 ∷ []) ∷ (2 ∷ []) ∷ []) ≡ end 3 0 (Some 9) ∷ end 3 0 (Some 5) ∷ []
  pub with_seven : from_M named_values (Some 7) ([] ∷ (2 ∷ []) ∷ []) ≡ end 3 0 (Some 7) ∷ []
  pub with_others : from_M named_values None ([] ∷ (2 ∷ []) ∷ []) ≡ end 3 0 None ∷ []
  pub with_four : from_M passed_on (Some 4) ([] ∷ (0 ∷ []) ∷ (0 ∷ 1 ∷ []) ∷ (0 ∷ 2 ∷ []) ∷ []) ≡ end 2 0 (Some 4) ∷ end 3 0 (Some 1) ∷ []
  pub all_passed : from_M passed_on None ([] ∷ (0 ∷ []) ∷ (0 ∷ 1 ∷ []) ∷ []) ≡ end 2 0 None ∷ []

pub record ValueRows : Type 0 where
  pub values : values_of (wires_of way.Calls named_values) ≡ 3 ∷ 5 ∷ 7 ∷ []
  pub within_four : values_within (Some 4) (3 ∷ 5 ∷ 7 ∷ []) ≡ 3 ∷ []
  pub without_parameter : values_within None (3 ∷ 5 ∷ 7 ∷ []) ≡ []
  pub of_named : own_ends (end 3 0 None ∷ []) (wired 3 (end 2 0 (Some 9) ∷ end 3 0 (Some 3) ∷ []) ∷ wired 5 (end 3 0 (Some 9) ∷ end 3 0 (Some 5) ∷ []) ∷ wired 7 (end 3 0 (Some 7) ∷ []) ∷ [])
      ≡ wired 3 (end 2 0 (Some 9) ∷ end 3 0 (Some 3) ∷ []) ∷ wired 5 (end 3 0 (Some 9) ∷ end 3 0 (Some 5) ∷ []) ∷ []
  pub of_passed : own_ends (end 2 0 None ∷ []) (wired 4 (end 2 0 (Some 4) ∷ end 3 0 (Some 1) ∷ []) ∷ []) ≡ wired 4 (end 2 0 (Some 4) ∷ end 3 0 (Some 1) ∷ []) ∷ []
  pub eight_bits : parameter_of (Some 255) ≡ Some U8
  pub sixteen_bits : parameter_of (Some 65535) ≡ Some U16
  pub no_parameter : parameter_of None ≡ None

-- ---- a generic component with a type t, a constant n, and an element x behind them

abbrev pub entry : List ℕ → Meaning → Entry
entry name meaning = record { name = name; meaning = meaning }

abbrev pub names : List Entry
names = entry (codes "t") (type (struct 2) false) ∷ entry (codes "n") (constant I16 (pos 12)) ∷ entry (codes "x") (task 0) ∷ []

abbrev pub param : List ℕ → Param
param name = record { name = name; ty = None }

pub record GivenRows : Type 0 where
  pub both : given_in names (param (codes "t") ∷ param (codes "n") ∷ []) ≡ given (codes "t") (a_type (struct 2) false) ∷ given (codes "n") (a_constant (I16, pos 12)) ∷ []
  pub newest : given_in (names ++ entry (codes "n") (constant I16 (pos 13)) ∷ []) (param (codes "n") ∷ []) ≡ given (codes "n") (a_constant (I16, pos 13)) ∷ []
  pub no_argument : given_in names (param (codes "x") ∷ param (codes "y") ∷ []) ≡ []
  pub none : given_in names [] ≡ []
  pub generic : copy_of true 3 ≡ Some 3
  pub single : copy_of false 3 ≡ None
