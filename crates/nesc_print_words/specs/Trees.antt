-- Parts of trees as plain data.
use Rattle.std.specs.Prelude.{List, map, Option, option_map}
use Rattle.nesc_tree.specs.declared.tree.Expr as expr
use Rattle.nesc_tree.specs.declared.tree.EnumItem as enum_item
use Rattle.nesc_tree.specs.declared.tree.Declarator as declarator
use Rattle.nesc_tree.specs.declared.tree.FieldGroup as field_group
use Rattle.nesc_tree.specs.declared.tree.Base.TheFolds.{fold-EnumItem, fold-Declarator, fold-FieldGroup}
use Rattle.nesc_tree.specs.Plain.{Expr, MaybeExpr, TypeSpec, Base, Groups, Declarators, Items}
use Rattle.nesc_tree.specs.View.{Declarator, Item, Group, items, declarators, groups, maybe_expr, expr_of, base_layer, expr_layer, declarator_layer, item_layer, group_layer, spec_layer}

abbrev pub item_of : enum_item.EnumItem → Item
item_of x = fold-EnumItem Base Expr Declarator Item Group TypeSpec base_layer expr_layer declarator_layer item_layer group_layer spec_layer x

abbrev pub declarator_of : declarator.Declarator → Declarator
declarator_of x = fold-Declarator Base Expr Declarator Item Group TypeSpec base_layer expr_layer declarator_layer item_layer group_layer spec_layer x

abbrev pub group_of : field_group.FieldGroup → Group
group_of x = fold-FieldGroup Base Expr Declarator Item Group TypeSpec base_layer expr_layer declarator_layer item_layer group_layer spec_layer x

abbrev pub maybe_of : Option expr.Expr → MaybeExpr
maybe_of e = maybe_expr (option_map expr_of e)

abbrev pub items_of : List enum_item.EnumItem → Items
items_of xs = items (map item_of xs)

abbrev pub declarators_of : List declarator.Declarator → Declarators
declarators_of xs = declarators (map declarator_of xs)

abbrev pub groups_of : List field_group.FieldGroup → Groups
groups_of xs = groups (map group_of xs)
