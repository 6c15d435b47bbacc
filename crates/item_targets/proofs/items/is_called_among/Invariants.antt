use Rattle.std.proofs.Common.{◌≡◌, drop, map}
use Rattle.std.specs.List.{list_any}
use Rattle.nesc_unwired.specs.Told.{is_called}
use Rattle.item_targets.specs.View.{element_of, item_of}
use Rattle.item_targets.proofs.items.is_called_among.Given as goal

abbrev pub invariant-loop-y : goal.invariant-loop-y
invariant-loop-y l = list_any (is_called (element_of l.x) l.signal l.item) (map item_of (drop l.y-index l.items)) ≡ list_any (is_called (element_of l.x) l.signal l.item) (map item_of l.items)
