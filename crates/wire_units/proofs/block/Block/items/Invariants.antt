use Rattle.std.proofs.Common.{◌≡◌, length}
use Rattle.wire_units.specs.Block.{items_in}
use Rattle.wire_units.specs.BlockView.{items_of}
use Rattle.wire_units.proofs.block.Block.items.Given as goal

abbrev pub invariant-loop-item : goal.invariant-loop-item
invariant-loop-item l = items_in l.self (items_of l.rest) ≡ items_in l.fn.self (items_of l.items)

abbrev pub decreases-loop-item : goal.decreases-loop-item
decreases-loop-item l = length l.rest
