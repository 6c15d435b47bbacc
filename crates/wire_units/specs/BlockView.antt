-- Parts of types as plain data.
use Rattle.std.specs.Prelude.{List, map}
use Rattle.nesc_tree.specs.declared.tree.EnumItem as item
use Rattle.nesc_tree.specs.declared.tree.Base.TheFolds.{fold-EnumItem, fold-Declarator, fold-FieldGroup}
use Rattle.nesc_tree.specs.declared.tree.Declarator as declarator
use Rattle.nesc_tree.specs.declared.tree.FieldGroup as group
use Rattle.nesc_tree.specs.Plain.{Expr, TypeSpec, Base, Groups, Declarators, Items}
use Rattle.nesc_tree.specs.View.{Declarator, Item, Group, items, declarators, groups, base_layer, expr_layer, declarator_layer, item_layer, group_layer, spec_layer}

abbrev pub item_of : item.EnumItem → Item
item_of x = fold-EnumItem Base Expr Declarator Item Group TypeSpec base_layer expr_layer declarator_layer item_layer group_layer spec_layer x

abbrev pub declarator_of : declarator.Declarator → Declarator
declarator_of x = fold-Declarator Base Expr Declarator Item Group TypeSpec base_layer expr_layer declarator_layer item_layer group_layer spec_layer x

abbrev pub group_of : group.FieldGroup → Group
group_of x = fold-FieldGroup Base Expr Declarator Item Group TypeSpec base_layer expr_layer declarator_layer item_layer group_layer spec_layer x

abbrev pub items_of : List item.EnumItem → Items
items_of xs = items (map item_of xs)

abbrev pub declarators_of : List declarator.Declarator → Declarators
declarators_of xs = declarators (map declarator_of xs)

abbrev pub groups_of : List group.FieldGroup → Groups
groups_of xs = groups (map group_of xs)
