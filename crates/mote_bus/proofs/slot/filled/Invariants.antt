use Rattle.std.proofs.Common.{◌≡◌, ◌-◌, ◌++◌, map, replicate, length, Some, None}
use Rattle.mote_bus.proofs.slot.filled.Given as goal

abbrev pub invariant-loop-item : goal.invariant-loop-item
invariant-loop-item g l = record {
  whole : l.yielded ++ l.item-iterator.rest.items ≡ l.fn.items.items;
  counted : l.at ≡ length l.yielded;
  slots : l.slots ≡ map Some l.yielded ++ replicate (8 - l.at) None;
}
