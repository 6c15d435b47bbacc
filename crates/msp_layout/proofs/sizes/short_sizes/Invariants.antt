-- The sizes so far.
use Rattle.std.proofs.Common.{◌≡◌, map, take}
use Rattle.msp_layout.specs.Rounds.{short_bytes}
use Rattle.msp_layout.proofs.sizes.short_sizes.Given as goal

abbrev pub invariant-loop-item : goal.invariant-loop-item
invariant-loop-item l = l.sizes.items ≡ map short_bytes (take l.item-index l.items)
