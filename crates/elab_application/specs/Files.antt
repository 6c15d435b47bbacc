-- Interfaces and components in the files of an application, as elaboration is given them (nesC 1.3 Reference, sections 3 to 6): of a
-- configuration nothing is left beside the wires.
use Rattle.std.specs.Prelude.{List, [], map, Option, Some, None, option_and_then, slice_get, unwrap_or}
use Rattle.nesc_tree.specs.declared.components.Elem.{Elem}
use Rattle.nesc_tree.specs.declared.components.Interface as tree
use Rattle.nesc_tree.specs.declared.components.Part.{Part}
use Rattle.nesc_tree.specs.declared.components.Part.TheVariants as part
use Rattle.body_meaning.specs.Tree.{Decl}
use Rattle.body_meaning.specs.View.{decl_of}
use Rattle.wire_instances.specs.declared.plan.Made.{Made}
use Rattle.wire_pairs.specs.Application.{name_in}
use Rattle.wire_units.specs.declared.loaded.Loaded.{Loaded}
use Rattle.wire_units.specs.Units.{Name, head_of, number_of}
use Rattle.wire_facts.specs.Components.{Param, generic_in}
use Rattle.program_meaning.specs.Parts.{Interface}
use Rattle.elab_targets.specs.View.{sig_of}

-- ---- interfaces, by name

abbrev pub interface_of : Part → Option tree.Interface
interface_of (part.Interface i) = Some i
interface_of (part.Module m) = None
interface_of (part.Config c) = None
interface_of part.Header = None

abbrev pub interface_in : Option Loaded → Option tree.Interface
interface_in None = None
interface_in (Some u) = interface_of u.unit.part

abbrev pub interface_named : List Loaded → Name → Option tree.Interface
interface_named units name = option_and_then (λ k. interface_in (slice_get units k)) (number_of units name)

-- its parameters and items; an element whose interface is in no file has none
abbrev pub parts_of : Option tree.Interface → Interface
parts_of None = record { params = []; items = [] }
parts_of (Some i) = record { params = i.params; items = map sig_of i.items }

-- ---- components, by their files

abbrev pub elems_in : Part → List Elem
elems_in (part.Module m) = m.head.elems
elems_in (part.Config c) = []
elems_in (part.Interface i) = []
elems_in part.Header = []

abbrev pub decls_in : Part → List Decl
decls_in (part.Module m) = map decl_of m.decls
decls_in (part.Config c) = []
decls_in (part.Interface i) = []
decls_in part.Header = []

-- the specification of a module
abbrev pub elems_of : Option Loaded → List Elem
elems_of None = []
elems_of (Some u) = elems_in u.unit.part

-- the declarations of its implementation
abbrev pub decls_of : Option Loaded → List Decl
decls_of None = []
decls_of (Some u) = decls_in u.unit.part

-- the parameters of a generic component
abbrev pub generic_of : Option Loaded → Option (List Param)
generic_of None = None
generic_of (Some u) = generic_in (head_of u.unit.part)

abbrev pub name_of : Option Loaded → Name
name_of file = unwrap_or (name_in file) []

-- the file of an instance's component
abbrev pub file_of : List Loaded → Made → Option Loaded
file_of units m = slice_get units m.component
