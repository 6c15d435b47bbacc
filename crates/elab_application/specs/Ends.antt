-- Elements of modules, and the ends that the wires reach from them (nesC 1.3 Reference, sections 5 and 9; Gay et al. 2003, section 3):
-- calls of the commands of a used interface go along the wires to modules that provide it, signals of the events of a provided one go the
-- other way to modules that use it.
use Rattle.std.specs.Prelude.{◌≡◌, ℕ, Bool, true, false, not, cond, nat_eq, nat_le, List, [], length, map, filter, Option, Some, None}
use Rattle.std.specs.List.{All}
use Rattle.nm_base.specs.declared.int_type.IntType.{IntType}
use Rattle.nm_base.specs.declared.int_type.IntType.TheVariants.{U8, U16}
use Rattle.nesc_tree.specs.declared.components.Elem as tree
use Rattle.nesc_tree.specs.View.{spec_of}
use Rattle.wire_instances.specs.declared.plan.Made.{Made}
use Rattle.wire_pairs.specs.declared.ends.Pair.{Pair}
use Rattle.wire_paths.specs.Paths.{end}
use Rattle.wire_paths.specs.Wires.{values_of, wires_of}
use Rattle.wire_paths.specs.declared.wires.Way.{Way}
use Rattle.wire_paths.specs.declared.wires.Way.TheVariants as way
use Rattle.wire_targets.specs.declared.end.End.{End}
use Rattle.wire_targets.specs.declared.end.Wire.{Wire}
use Rattle.wire_targets.specs.Targets.{AreTargets}
use Rattle.wire_units.specs.declared.loaded.Loaded.{Loaded}
use Rattle.program_meaning.specs.Parts.{Elem, Wired}
use Rattle.elab_application.specs.Files.{elems_of, file_of, interface_named, parts_of}

-- ---- directions

-- how what an element calls or signals goes out
abbrev pub way_out : (provides : Bool) → Way
way_out false = way.Calls
way_out true = way.Signals

-- whether what goes this way ends at an element of a module
abbrev pub is_sink : Way → (provides : Bool) → Bool
is_sink way.Calls provides = provides
is_sink way.Signals provides = not provides

abbrev pub sinks_in : Way → List tree.Elem → List Bool
sinks_in w es = map (λ (e : tree.Elem). is_sink w e.provides) es

-- of each instance; none of a configuration
abbrev pub sinks_of : Way → List Loaded → List Made → List (List Bool)
sinks_of w units made = map (λ (m : Made). sinks_in w (elems_of (file_of units m))) made

-- ---- parameters

-- the type of a parameter, by its greatest value
abbrev pub parameter_of : (greatest : Option ℕ) → Option IntType
parameter_of None = None
parameter_of (Some n) = Some (cond (nat_le n 255) U8 U16)

-- the values that it may have, of those that wires name
abbrev pub values_within : (greatest : Option ℕ) → List ℕ → List ℕ
values_within None values = []
values_within (Some n) values = filter (λ v. nat_le v n) values

-- A value leads elsewhere where more ends are reached with it than with a value that no wire names. Wires that name no value lead on from
-- every value, so the same number of ends are the same ends, with the value passed on
abbrev pub leads_elsewhere : (others : List End) → Wired → Bool
leads_elsewhere others w = not (nat_eq (length w.ends) (length others))

-- the values of a parameter that lead elsewhere, with the ends that are reached with each
pub record AreNamed (wires : List Wire) (sinks : List (List Bool)) (i j : ℕ) (values : List ℕ) (others : List End) (named : List Wired) : Type 0 where
  pub found : List Wired
  pub values_are : map (λ (w : Wired). w.value) found ≡ values
  pub ends_are : All (λ (w : Wired). AreTargets wires sinks (end i j (Some w.value)) w.ends) found
  pub named_are : named ≡ filter (leads_elsewhere others) found

-- ---- elements

-- what is given of element j of instance i, whose parameter has this greatest value
pub record IsElement (units : List Loaded) (made : List Made) (pairs : List Pair) (i j : ℕ) (greatest : Option ℕ) (e : tree.Elem) (x : Elem) : Type 0 where
  pub direction_is : x.provides ≡ e.provides
  pub name_is : x.name ≡ e.name
  pub interface_is : x.interface ≡ parts_of (interface_named units e.iface)
  pub args_are : x.args ≡ map spec_of e.args
  pub parameter_is : x.parameter ≡ parameter_of greatest
  pub place_is : x.at ≡ e.pos
  pub others_are : AreTargets (wires_of (way_out e.provides) pairs) (sinks_of (way_out e.provides) units made) (end i j None) x.others
  pub named_are : AreNamed (wires_of (way_out e.provides) pairs) (sinks_of (way_out e.provides) units made) i j
      (values_within greatest (values_of (wires_of (way_out e.provides) pairs))) x.others x.named
