use Rattle.std.proofs.Common.{◌≡◌, ◌+◌, ◌*◌, ◌≤◌, map, drop, pos}
use Rattle.nesc_core.specs.View.{type_of as core_type_of, exprs_of as core_exprs_of}
use Rattle.nesc_tree.specs.View.{base_of, expr_of, exprs_of, spec_of}
use Rattle.elab_meaning.specs.Elab.{after}
use Rattle.elab_meaning.specs.Wired as spec
use Rattle.elab_meaning.specs.View.{based_of, env_of, state_of, struct_of}
use Rattle.elab_forms.specs.Trees.{declarator_of, declarators_of, group_of, groups_of, item_of, items_of, maybe_of}
use Rattle.elab_exprs.proofs.Loops.{behind, joined}
use Rattle.elab_exprs.proofs.Sizes.{base_size, groups_size, items_size, maybe_size, names_size, size, sizes, type_size}
use Rattle.elab_exprs.proofs.+walk.Given as goal

-- a form calls with its parts alone
abbrev pub decreases-walk::found : goal.decreases-walk::found
decreases-walk::found l = 8 * size (expr_of l.e.now)

abbrev pub decreases-walk::value : goal.decreases-walk::value
decreases-walk::value l = 8 * size (expr_of l.e.now) + 1

abbrev pub decreases-walk::unary : goal.decreases-walk::unary
decreases-walk::unary l = 8 * size (expr_of l.a.now) + 1

abbrev pub decreases-walk::postfix : goal.decreases-walk::postfix
decreases-walk::postfix l = 8 * size (expr_of l.a.now) + 1

abbrev pub decreases-walk::between : goal.decreases-walk::between
decreases-walk::between l = 8 * (size (expr_of l.a.now) + size (expr_of l.b.now)) + 2

abbrev pub decreases-walk::assign : goal.decreases-walk::assign
decreases-walk::assign l = 8 * (size (expr_of l.a.now) + size (expr_of l.b.now)) + 2

abbrev pub decreases-walk::choice : goal.decreases-walk::choice
decreases-walk::choice l = 8 * (size (expr_of l.a.now) + size (expr_of l.b.now) + size (expr_of l.c.now)) + 3

abbrev pub decreases-walk::choice_with : goal.decreases-walk::choice_with
decreases-walk::choice_with l = 8 * size (expr_of l.c.now) + 2

abbrev pub decreases-walk::both : goal.decreases-walk::both
decreases-walk::both l = 8 * (size (expr_of l.a.now) + size (expr_of l.b.now)) + 2

abbrev pub decreases-walk::cast : goal.decreases-walk::cast
decreases-walk::cast l = 8 * (type_size (spec_of l.t.now) + size (expr_of l.a.now)) + 2

abbrev pub decreases-walk::measured : goal.decreases-walk::measured
decreases-walk::measured l = 8 * size (expr_of l.a.now) + 1

abbrev pub decreases-walk::size_found : goal.decreases-walk::size_found
decreases-walk::size_found l = 8 * size (expr_of l.a.now) + 2

abbrev pub decreases-walk::type_size : goal.decreases-walk::type_size
decreases-walk::type_size l = 8 * type_size (spec_of l.t.now) + 1

abbrev pub decreases-walk::type_size_found : goal.decreases-walk::type_size_found
decreases-walk::type_size_found l = 8 * type_size (spec_of l.t.now) + 2

abbrev pub decreases-walk::index : goal.decreases-walk::index
decreases-walk::index l = 8 * (size (expr_of l.a.now) + size (expr_of l.i.now)) + 2

abbrev pub decreases-walk::field : goal.decreases-walk::field
decreases-walk::field l = 8 * size (expr_of l.a.now) + 1

abbrev pub decreases-walk::field_behind : goal.decreases-walk::field_behind
decreases-walk::field_behind l = 8 * size (expr_of l.a.now) + 2

abbrev pub decreases-walk::call : goal.decreases-walk::call
decreases-walk::call l = 8 * (size (expr_of l.f.now) + sizes (exprs_of l.args.now)) + 4

abbrev pub decreases-walk::arguments : goal.decreases-walk::arguments
decreases-walk::arguments l = 8 * sizes (exprs_of l.args.now) + 3

abbrev pub decreases-walk::argument : goal.decreases-walk::argument
decreases-walk::argument l = 8 * size (expr_of l.a.now) + 2

abbrev pub decreases-walk::parameter : goal.decreases-walk::parameter
decreases-walk::parameter l = 8 * maybe_size (maybe_of l.param.now) + 4

abbrev pub decreases-walk::given_parameter : goal.decreases-walk::given_parameter
decreases-walk::given_parameter l = 8 * size (expr_of l.a.now) + 3

abbrev pub decreases-walk::call_item : goal.decreases-walk::call_item
decreases-walk::call_item l = 8 * (sizes (exprs_of l.args.now) + maybe_size (maybe_of l.param.now)) + 6

abbrev pub decreases-walk::call_item_with : goal.decreases-walk::call_item_with
decreases-walk::call_item_with l = 8 * sizes (exprs_of l.args.now) + 5

abbrev pub decreases-walk::port_read : goal.decreases-walk::port_read
decreases-walk::port_read l = 8 * size (expr_of l.p.now) + 1

abbrev pub decreases-walk::port_write : goal.decreases-walk::port_write
decreases-walk::port_write l = 8 * (size (expr_of l.p.now) + size (expr_of l.a.now)) + 2

abbrev pub decreases-constants::constant_in : goal.decreases-constants::constant_in
decreases-constants::constant_in l = 8 * size (expr_of l.e.now)

abbrev pub decreases-constants::constant_unary : goal.decreases-constants::constant_unary
decreases-constants::constant_unary l = 8 * size (expr_of l.a.now) + 1

abbrev pub decreases-constants::constant_between : goal.decreases-constants::constant_between
decreases-constants::constant_between l = 8 * (size (expr_of l.a.now) + size (expr_of l.b.now)) + 1

abbrev pub decreases-constants::constant_choice : goal.decreases-constants::constant_choice
decreases-constants::constant_choice l = 8 * (size (expr_of l.a.now) + size (expr_of l.b.now) + size (expr_of l.c.now)) + 1

abbrev pub decreases-constants::constant_comma : goal.decreases-constants::constant_comma
decreases-constants::constant_comma l = 8 * (size (expr_of l.a.now) + size (expr_of l.b.now)) + 1

abbrev pub decreases-constants::constant_cast : goal.decreases-constants::constant_cast
decreases-constants::constant_cast l = 8 * (type_size (spec_of l.t.now) + size (expr_of l.a.now)) + 1

abbrev pub decreases-types::type_of : goal.decreases-types::type_of
decreases-types::type_of l = 8 * type_size (spec_of l.t.now)

abbrev pub decreases-types::lengths : goal.decreases-types::lengths
decreases-types::lengths l = 8 * sizes (exprs_of l.dims.now) + 3

abbrev pub decreases-types::length_of : goal.decreases-types::length_of
decreases-types::length_of l = 8 * size (expr_of l.e.now) + 2

abbrev pub decreases-types::base : goal.decreases-types::base
decreases-types::base l = 8 * base_size (base_of l.b.now)

abbrev pub decreases-types::struct_with : goal.decreases-types::struct_with
decreases-types::struct_with l = 8 * groups_size (groups_of l.groups.now) + 6

abbrev pub decreases-types::enum_with : goal.decreases-types::enum_with
decreases-types::enum_with l = 8 * items_size (items_of l.items.now) + 6

abbrev pub decreases-types::fields : goal.decreases-types::fields
decreases-types::fields l = 8 * groups_size (groups_of l.groups.now) + 5

abbrev pub decreases-types::group : goal.decreases-types::group
decreases-types::group l = 8 * (type_size (group_of l.g.now).0 + names_size (group_of l.g.now).1) + 4

abbrev pub decreases-types::fields_of : goal.decreases-types::fields_of
decreases-types::fields_of l = 8 * names_size (declarators_of l.names.now) + 3

abbrev pub decreases-types::one_field : goal.decreases-types::one_field
decreases-types::one_field l = 8 * (1 + sizes (declarator_of l.d.now).2)

abbrev pub decreases-types::enum_items : goal.decreases-types::enum_items
decreases-types::enum_items l = 8 * items_size (items_of l.items.now) + 5

abbrev pub decreases-types::enum_item : goal.decreases-types::enum_item
decreases-types::enum_item l = 8 * (1 + maybe_size (item_of l.x.now).1)

abbrev pub decreases-types::item_value : goal.decreases-types::item_value
decreases-types::item_value l = 8 * maybe_size (maybe_of l.value.now) + 3

-- ---- the rest gives, behind what there is so far, what all give

abbrev pub invariant-walk::arguments-loop-a : goal.invariant-walk::arguments-loop-a
invariant-walk::arguments-loop-a l = record {
  rest : spec.all_arguments (env_of l.fn.told.env) l.fn.told.values (map core_type_of l.fn.params) (exprs_of l.fn.args) (state_of l.fn.work)
      ≡ after (spec.all_arguments (env_of l.told.env) l.told.values (map core_type_of l.params) (exprs_of (drop l.a-index l.a-items)) (state_of l.work)) (joined (core_exprs_of l.values.items));
  smaller : sizes (exprs_of (drop l.a-index l.a-items)) ≤ sizes (exprs_of l.args);
}

abbrev pub invariant-types::lengths-loop-e : goal.invariant-types::lengths-loop-e
invariant-types::lengths-loop-e l = record {
  rest : spec.lengths (env_of l.fn.told.env) l.fn.told.values (exprs_of l.fn.dims) (state_of l.fn.work)
      ≡ after (spec.lengths (env_of l.told.env) l.told.values (exprs_of (drop l.e-index l.e-items)) (state_of l.work)) (behind l.ns.items);
  smaller : sizes (exprs_of (drop l.e-index l.e-items)) ≤ sizes (exprs_of l.dims);
}

abbrev pub invariant-types::fields-loop-g : goal.invariant-types::fields-loop-g
invariant-types::fields-loop-g l = record {
  rest : spec.fields (env_of l.fn.told.env) l.fn.told.values l.fn.at (struct_of l.fn.made) (groups_of l.fn.groups) (state_of l.fn.work)
      ≡ spec.fields (env_of l.told.env) l.told.values l.at (struct_of l.made) (groups_of (drop l.g-index l.g-items)) (state_of l.work);
  smaller : groups_size (groups_of (drop l.g-index l.g-items)) ≤ groups_size (groups_of l.groups);
}

abbrev pub invariant-types::fields_of-loop-d : goal.invariant-types::fields_of-loop-d
invariant-types::fields_of-loop-d l = record {
  rest : spec.fields_of (env_of l.fn.told.env) l.fn.told.values l.fn.at (based_of l.fn.b) l.fn.said (struct_of l.fn.made) (declarators_of l.fn.names) (state_of l.fn.work)
      ≡ spec.fields_of (env_of l.told.env) l.told.values l.at (based_of l.b) l.said (struct_of l.made) (declarators_of (drop l.d-index l.d-items)) (state_of l.work);
  smaller : names_size (declarators_of (drop l.d-index l.d-items)) ≤ names_size (declarators_of l.names);
}

abbrev pub invariant-types::enum_items-loop-x : goal.invariant-types::enum_items-loop-x
invariant-types::enum_items-loop-x l = record {
  rest : spec.enum_items (env_of l.fn.told.env) l.fn.told.values (pos 0) (items_of l.fn.items) (state_of l.fn.work)
      ≡ spec.enum_items (env_of l.told.env) l.told.values l.next (items_of (drop l.x-index l.x-items)) (state_of l.work);
  smaller : items_size (items_of (drop l.x-index l.x-items)) ≤ items_size (items_of l.items);
}
