-- The files of an application by name: a name stands for the first file that has it.
use Rattle.std.specs.Prelude.{ℕ, Bool, true, false, List, [], Option, Some, None, option_and_then, slice_get, bytes_eq, if◌then◌else◌}
use Rattle.std.specs.List.{position_from}
use Rattle.nesc_tree.specs.declared.components.Part.{Part}
use Rattle.nesc_tree.specs.declared.components.Part.TheVariants as part
use Rattle.nesc_tree.specs.declared.components.Head.{Head}
use Rattle.nesc_tree.specs.declared.components.ConfLine.{ConfLine}
use Rattle.wire_units.specs.declared.loaded.Loaded.{Loaded}

abbrev pub Name : Type 0
Name = List ℕ

abbrev pub name_of : Part → Option Name
name_of (part.Interface i) = Some i.name
name_of (part.Module m) = Some m.head.name
name_of (part.Config c) = Some c.head.name
name_of part.Header = None

abbrev pub head_of : Part → Option Head
head_of (part.Module m) = Some m.head
head_of (part.Config c) = Some c.head
head_of (part.Interface i) = None
head_of part.Header = None

abbrev pub lines_in : Part → List ConfLine
lines_in (part.Config c) = c.lines
lines_in (part.Interface i) = []
lines_in (part.Module m) = []
lines_in part.Header = []

abbrev pub is_component : Part → Bool
is_component (part.Module m) = true
is_component (part.Config c) = true
is_component (part.Interface i) = false
is_component part.Header = false

abbrev pub is_named : Name → Option Name → Bool
is_named name None = false
is_named name (Some own) = bytes_eq name own

abbrev pub number_of : List Loaded → Name → Option ℕ
number_of units name = position_from (λ (u : Loaded). is_named name (name_of u.unit.part)) 0 units

abbrev pub is_component_in : Option Loaded → Bool
is_component_in None = false
is_component_in (Some u) = is_component u.unit.part

-- the number of the component of this name, where the file of this name holds a component
abbrev pub component_of : List Loaded → Name → Option ℕ
component_of units name = option_and_then (λ k. if is_component_in (slice_get units k) then Some k else None) (number_of units name)
