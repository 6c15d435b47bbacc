-- Elements of a module seen as plain data (own).
use Rattle.std.specs.Prelude.{List, map}
use Rattle.nesc_tree.specs.declared.components.Sig as sig
use Rattle.nesc_unwired.specs.Told.{Element, Item}
use Rattle.item_targets.specs.declared.elements.Element as element

abbrev pub item_of : sig.Sig → Item
item_of x = record { name = x.name; is_event = x.is_event }

abbrev pub element_of : element.Element → Element
element_of x = record { provides = x.provides; name = x.name.now; parameter = x.parameter; items = map item_of x.items.now; at = x.at }
