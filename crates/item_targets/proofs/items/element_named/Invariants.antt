use Rattle.std.proofs.Common.{◌≡◌, map, drop}
use Rattle.nesc_unwired.specs.Told.{element_from}
use Rattle.item_targets.specs.View.{element_of}
use Rattle.item_targets.proofs.items.element_named.Given as goal

abbrev pub invariant-loop-k : goal.invariant-loop-k
invariant-loop-k l = element_from l.k (map element_of (drop l.k l.elements)) l.name ≡ element_from 0 (map element_of l.elements) l.name
