-- What the rest adds, from here, is what all add.
use Rattle.std.proofs.Common.{◌≡◌, drop}
use Rattle.nesc_tree.specs.View.{exprs_of}
use Rattle.item_targets.specs.Search.{goes, seen_of}
use Rattle.item_targets.specs.Walk.{exprs_at}
use Rattle.item_targets.proofs.expressions.+expressions.Given as goal

abbrev pub invariant-in_list-loop-e : goal.invariant-in_list-loop-e
invariant-in_list-loop-e g l =
    goes (exprs_at g.R.Reaches.reach l.walk (exprs_of (drop l.e-index l.e-items))) (seen_of l.search)
    ≡ goes (exprs_at g.R.Reaches.reach l.fn.walk (exprs_of l.fn.list)) (seen_of l.fn.search)
