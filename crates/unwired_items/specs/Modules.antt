-- What is told of the module of an instance, and whether wires reach something from its elements (nesC 1.3 Reference, sections 5 and 9).
use Rattle.std.specs.Prelude.{ℕ, Bool, true, false, nat_eq, if◌then◌else◌, List, [], ◌∷◌, map, Option, Some, None, slice_get}
use Rattle.wire_targets.specs.declared.end.End.{End}
use Rattle.program_meaning.specs.Parts.{Elem, Instance, Sig, Wired}
use Rattle.nesc_unwired.specs.Told.{Element, Item, Reach}
use Rattle.nesc_unwired.specs.Calls.{Module}

abbrev pub item_of : Sig → Item
item_of x = record { name = x.name; is_event = x.is_event }

abbrev pub element_of : Elem → Element
element_of x = record { provides = x.provides; name = x.name; parameter = x.parameter; items = map item_of x.interface.items; at = x.at }

-- the ends that are reached with a value: those of a wire that names it, or those of all others
abbrev pub ends_with : List Wired → (others : List End) → ℕ → List End
ends_with [] others value = others
ends_with (w ∷ ws) others value = if nat_eq w.value value then w.ends else ends_with ws others value

abbrev pub ends_at : Elem → Option ℕ → List End
ends_at x None = x.others
ends_at x (Some value) = ends_with x.named x.others value

abbrev pub are_some : List End → Bool
are_some [] = false
are_some (e ∷ es) = true

abbrev pub reaches_from : Option Elem → Option ℕ → Bool
reaches_from None value = false
reaches_from (Some x) value = are_some (ends_at x value)

-- every end is an implementation: a module lacks none of its items
abbrev pub reach_of : List Elem → Reach
reach_of xs element value = reaches_from (slice_get xs element) value

abbrev pub module_of : Instance → Module
module_of i = record { elements = map element_of i.elems; reach = reach_of i.elems; decls = i.decls }
