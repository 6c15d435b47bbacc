use Rattle.std.proofs.Common.{◌≡◌, ◌++◌, reverse, length}
use Rattle.wire_reading.proofs.waiting.push_all.Given as goal

abbrev pub invariant-loop-need : goal.invariant-loop-need
invariant-loop-need l = l.needs.items ++ reverse l.waiting.items ≡ l.fn.needs.items ++ reverse l.fn.waiting.items

abbrev pub decreases-loop-need : goal.decreases-loop-need
decreases-loop-need l = length l.needs.items
