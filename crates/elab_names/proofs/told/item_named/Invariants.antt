use Rattle.std.proofs.Common.{◌≡◌, map, drop}
use Rattle.elab_meaning.specs.Scope.{item_from}
use Rattle.elab_meaning.specs.View.{item_of}
use Rattle.elab_names.proofs.told.item_named.Given as goal

abbrev pub invariant-loop-k : goal.invariant-loop-k
invariant-loop-k l = item_from l.k (map item_of (drop l.k l.items)) l.element l.name ≡ item_from 0 (map item_of l.items) l.element l.name
