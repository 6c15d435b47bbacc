-- What was found, with what is left to be found, is all.
use Rattle.std.proofs.Common.{◌≡◌, ◌++◌, drop}
use Rattle.nesc_tree.specs.View.{exprs_of}
use Rattle.wire_uniques.specs.Expressions as spec
use Rattle.wire_uniques.specs.Trees.{declarators_of, groups_of, items_of}
use Rattle.wire_uniques.proofs.expressions.+uses.Given as goal

abbrev pub invariant-in_groups-loop-group : goal.invariant-in_groups-loop-group
invariant-in_groups-loop-group l = l.found.items ++ spec.in_groups (groups_of (drop l.group-index l.group-items)) ≡ l.fn.found.items ++ spec.in_groups (groups_of l.groups)

abbrev pub invariant-in_items-loop-item : goal.invariant-in_items-loop-item
invariant-in_items-loop-item l = l.found.items ++ spec.in_items (items_of (drop l.item-index l.item-items)) ≡ l.fn.found.items ++ spec.in_items (items_of l.items)

abbrev pub invariant-in_list-loop-e : goal.invariant-in_list-loop-e
invariant-in_list-loop-e l = l.found.items ++ spec.in_exprs (exprs_of (drop l.e-index l.e-items)) ≡ l.fn.found.items ++ spec.in_exprs (exprs_of l.list)

abbrev pub invariant-in_names-loop-declarator : goal.invariant-in_names-loop-declarator
invariant-in_names-loop-declarator l = l.found.items ++ spec.in_names (declarators_of (drop l.declarator-index l.declarator-items)) ≡ l.fn.found.items ++ spec.in_names (declarators_of l.names)
