-- The levels that are left fall, and at one level the order of the calls; what is there, with the words of what is left, is all.
use Rattle.std.proofs.Common.{◌≡◌, ◌+◌, ◌*◌, ◌++◌, drop}
use Rattle.nesc_tree.specs.View.{exprs_of}
use Rattle.nesc_print_words.specs.Expressions as spec
use Rattle.nesc_print_words.specs.Trees.{declarators_of, groups_of, items_of}
use Rattle.nesc_print_exprs.proofs.expressions.+tree.Given as goal

abbrev pub decreases-put_expr : goal.decreases-put_expr
decreases-put_expr l = 12 * l.levels + 0

abbrev pub decreases-put_value : goal.decreases-put_value
decreases-put_value l = 12 * l.levels + 1

abbrev pub decreases-put_after_comma : goal.decreases-put_after_comma
decreases-put_after_comma l = 12 * l.levels + 1

abbrev pub decreases-put_bracket : goal.decreases-put_bracket
decreases-put_bracket l = 12 * l.levels + 1

abbrev pub decreases-put_item : goal.decreases-put_item
decreases-put_item l = 12 * l.levels + 2

abbrev pub decreases-put_more : goal.decreases-put_more
decreases-put_more l = 12 * l.levels + 2

abbrev pub decreases-put_parameter : goal.decreases-put_parameter
decreases-put_parameter l = 12 * l.levels + 2

abbrev pub decreases-put_dims : goal.decreases-put_dims
decreases-put_dims l = 12 * l.levels + 2

abbrev pub decreases-put_listed : goal.decreases-put_listed
decreases-put_listed l = 12 * l.levels + 3

abbrev pub decreases-put_more_items : goal.decreases-put_more_items
decreases-put_more_items l = 12 * l.levels + 3

abbrev pub decreases-put_items : goal.decreases-put_items
decreases-put_items l = 12 * l.levels + 4

abbrev pub decreases-put_arguments : goal.decreases-put_arguments
decreases-put_arguments l = 12 * l.levels + 4

abbrev pub decreases-put_constants : goal.decreases-put_constants
decreases-put_constants l = 12 * l.levels + 5

abbrev pub decreases-put_declarator : goal.decreases-put_declarator
decreases-put_declarator l = 12 * l.levels + 3

abbrev pub decreases-put_more_declarators : goal.decreases-put_more_declarators
decreases-put_more_declarators l = 12 * l.levels + 4

abbrev pub decreases-put_declarators : goal.decreases-put_declarators
decreases-put_declarators l = 12 * l.levels + 5

abbrev pub decreases-put_fields : goal.decreases-put_fields
decreases-put_fields l = 12 * l.levels + 0

abbrev pub decreases-put_base : goal.decreases-put_base
decreases-put_base l = 12 * l.levels + 6

abbrev pub decreases-put_type : goal.decreases-put_type
decreases-put_type l = 12 * l.levels + 8

abbrev pub decreases-put_in_parentheses : goal.decreases-put_in_parentheses
decreases-put_in_parentheses l = 12 * l.levels + 9

abbrev pub decreases-put_group : goal.decreases-put_group
decreases-put_group l = 12 * l.levels + 9

abbrev pub decreases-put_groups : goal.decreases-put_groups
decreases-put_groups l = 12 * l.levels + 10

abbrev pub decreases-put_binary : goal.decreases-put_binary
decreases-put_binary l = 12 * l.levels + 10

abbrev pub decreases-put_assignment : goal.decreases-put_assignment
decreases-put_assignment l = 12 * l.levels + 10

abbrev pub decreases-put_choice : goal.decreases-put_choice
decreases-put_choice l = 12 * l.levels + 10

abbrev pub decreases-put_member : goal.decreases-put_member
decreases-put_member l = 12 * l.levels + 10

abbrev pub decreases-put_port_read : goal.decreases-put_port_read
decreases-put_port_read l = 12 * l.levels + 10

abbrev pub decreases-put_port_write : goal.decreases-put_port_write
decreases-put_port_write l = 12 * l.levels + 10

abbrev pub decreases-put_prefixed : goal.decreases-put_prefixed
decreases-put_prefixed l = 12 * l.levels + 10

abbrev pub decreases-put_suffixed : goal.decreases-put_suffixed
decreases-put_suffixed l = 12 * l.levels + 10

abbrev pub decreases-put_pair : goal.decreases-put_pair
decreases-put_pair l = 12 * l.levels + 10

abbrev pub decreases-put_cast : goal.decreases-put_cast
decreases-put_cast l = 12 * l.levels + 10

abbrev pub decreases-put_size_of : goal.decreases-put_size_of
decreases-put_size_of l = 12 * l.levels + 10

abbrev pub decreases-put_type_size : goal.decreases-put_type_size
decreases-put_type_size l = 12 * l.levels + 10

abbrev pub decreases-put_index : goal.decreases-put_index
decreases-put_index l = 12 * l.levels + 10

abbrev pub decreases-put_call : goal.decreases-put_call
decreases-put_call l = 12 * l.levels + 10

abbrev pub decreases-put_item_arguments : goal.decreases-put_item_arguments
decreases-put_item_arguments l = 12 * l.levels + 10

abbrev pub decreases-put_bare : goal.decreases-put_bare
decreases-put_bare l = 12 * l.levels + 11

abbrev pub invariant-put_more-loop-e : goal.invariant-put_more-loop-e
invariant-put_more-loop-e l = l.words ++ spec.more_argument_words (exprs_of (drop l.e-index l.list)) ≡ l.fn.words ++ spec.more_argument_words (exprs_of l.list)

abbrev pub invariant-put_dims-loop-e : goal.invariant-put_dims-loop-e
invariant-put_dims-loop-e l = l.words ++ spec.dim_words (exprs_of (drop l.e-index l.e-items)) ≡ l.fn.words ++ spec.dim_words (exprs_of l.dims)

abbrev pub invariant-put_groups-loop-group : goal.invariant-put_groups-loop-group
invariant-put_groups-loop-group l = l.words ++ spec.group_words (groups_of (drop l.group-index l.group-items)) ≡ l.fn.words ++ spec.group_words (groups_of l.groups)

abbrev pub invariant-put_more_declarators-loop-field : goal.invariant-put_more_declarators-loop-field
invariant-put_more_declarators-loop-field l = l.words ++ spec.more_field_words (declarators_of (drop l.field-index l.fields)) ≡ l.fn.words ++ spec.more_field_words (declarators_of l.fields)

abbrev pub invariant-put_more_items-loop-item : goal.invariant-put_more_items-loop-item
invariant-put_more_items-loop-item l = l.words ++ spec.more_item_words (items_of (drop l.item-index l.items)) ≡ l.fn.words ++ spec.more_item_words (items_of l.items)
