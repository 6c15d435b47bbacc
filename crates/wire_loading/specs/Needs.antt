-- What a file needs (nesC 1.3 Reference, sections 6 and 7; own: the order).
use Rattle.std.specs.Prelude.{ℕ, true, false, List, [], ◌∷◌, ◌++◌, map, codes}
use Rattle.nesc_tree.specs.declared.components.Part.{Part}
use Rattle.nesc_tree.specs.declared.components.Part.TheVariants as part
use Rattle.nesc_tree.specs.declared.components.Elem.{Elem}
use Rattle.nesc_tree.specs.declared.components.ConfLine.{ConfLine}
use Rattle.nesc_tree.specs.declared.components.ConfLine.TheVariants as conf
use Rattle.wire_reading.specs.declared.opener.Need.{Need}
use Rattle.wire_reading.specs.Order.{Name, component}

abbrev pub interface : Name → Need
interface name = record { name = name; is_interface = true }

abbrev pub interfaces : List Elem → List Need
interfaces [] = []
interfaces (e ∷ es) = interface e.iface ∷ interfaces es

abbrev pub in_line : ConfLine → List Need
in_line (conf.Component name args alias pos) = component name ∷ []
in_line (conf.Link from to pos) = []
in_line (conf.Equate a b pos) = []
in_line (conf.Decl d) = []

abbrev pub components : List ConfLine → List Need
components [] = []
components (l ∷ ls) = in_line l ++ components ls

-- the interfaces of its specification, then the components that it names
abbrev pub needs_of : Part → List Need
needs_of (part.Interface i) = []
needs_of (part.Module m) = interfaces m.head.elems
needs_of (part.Config c) = interfaces c.head.elems ++ components c.lines
needs_of part.Header = []

-- a component or an interface X stands in the file X.nc
abbrev pub file_of : Name → Name
file_of name = name ++ codes ".nc"
