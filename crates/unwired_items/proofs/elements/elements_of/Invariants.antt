use Rattle.std.proofs.Common.{◌≡◌, ◌++◌, drop, map}
use Rattle.elab_targets.specs.View.{element_of as given_of}
use Rattle.item_targets.specs.View.{element_of as told_of}
use Rattle.unwired_items.specs.Modules.{element_of}
use Rattle.unwired_items.proofs.elements.elements_of.Given as goal

abbrev pub invariant-loop-x : goal.invariant-loop-x
invariant-loop-x l = map told_of l.all.items ++ map element_of (map given_of (drop l.x-index l.elems)) ≡ map element_of (map given_of l.elems)
