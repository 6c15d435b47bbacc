-- What was counted, with what is left to be counted, is the whole count.
use Rattle.std.proofs.Common.{◌≡◌, ◌+◌, drop}
use Rattle.nesc_tree.specs.View.{exprs_of}
use Rattle.elab_meaning.specs.Ends as spec
use Rattle.elab_forms.specs.Trees.{declarators_of, groups_of, items_of}
use Rattle.elab_forms.proofs.ends.+ends.Given as goal

abbrev pub invariant-in_groups-loop-g : goal.invariant-in_groups-loop-g
invariant-in_groups-loop-g l = l.n + spec.ends_in_groups (groups_of (drop l.g-index l.g-items)) ≡ l.before + spec.ends_in_groups (groups_of l.groups)

abbrev pub invariant-in_items-loop-x : goal.invariant-in_items-loop-x
invariant-in_items-loop-x l = l.n + spec.ends_in_items (items_of (drop l.x-index l.x-items)) ≡ l.before + spec.ends_in_items (items_of l.items)

abbrev pub invariant-in_list-loop-e : goal.invariant-in_list-loop-e
invariant-in_list-loop-e l = l.n + spec.ends_in_all (exprs_of (drop l.e-index l.e-items)) ≡ l.before + spec.ends_in_all (exprs_of l.list)

abbrev pub invariant-in_names-loop-d : goal.invariant-in_names-loop-d
invariant-in_names-loop-d l = l.n + spec.ends_in_names (declarators_of (drop l.d-index l.d-items)) ≡ l.before + spec.ends_in_names (declarators_of l.names)
