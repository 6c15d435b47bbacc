-- What the rest adds, from here, is what all add.
use Rattle.std.proofs.Common.{◌≡◌, drop, map}
use Rattle.std.specs.Option.{option_map}
use Rattle.elab_meaning.specs.View.{based_of}
use Rattle.body_meaning.specs.View.{variable_of}
use Rattle.item_targets.specs.Search.{goes, seen_of}
use Rattle.item_targets.specs.Walk.{variables_by_at}
use Rattle.item_targets.proofs.variables.in_variables_by.Given as goal

abbrev pub invariant-loop-v : goal.invariant-loop-v
invariant-loop-v g l =
    goes (variables_by_at g.R.Reaches.reach l.walk (option_map based_of l.b) l.said (map variable_of (drop l.v-index l.v-items))) (seen_of l.search)
    ≡ goes (variables_by_at g.R.Reaches.reach l.fn.walk (option_map based_of l.fn.b) l.fn.said (map variable_of l.fn.variables)) (seen_of l.fn.search)
