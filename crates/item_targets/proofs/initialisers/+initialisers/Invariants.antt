-- What the rest adds, from here, is what all add.
use Rattle.std.proofs.Common.{◌≡◌, drop, map}
use Rattle.body_meaning.specs.View.{init_of, inits}
use Rattle.item_targets.specs.Search.{goes, seen_of}
use Rattle.item_targets.specs.Walk.{inits_at}
use Rattle.item_targets.proofs.initialisers.+initialisers.Given as goal

abbrev pub invariant-in_inits-loop-init : goal.invariant-in_inits-loop-init
invariant-in_inits-loop-init g l =
    goes (inits_at g.R.Reaches.reach l.walk (inits (map init_of (drop l.init-index l.init-items)))) (seen_of l.search)
    ≡ goes (inits_at g.R.Reaches.reach l.fn.walk (inits (map init_of l.fn.inits))) (seen_of l.fn.search)
