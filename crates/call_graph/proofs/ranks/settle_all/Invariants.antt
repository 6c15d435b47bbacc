use Rattle.std.proofs.Common.{◌-◌, length}
use Rattle.call_graph.specs.Ranks.{AreSettled}
use Rattle.call_graph.proofs.ranks.settle_all.Given as goal

abbrev pub decreases-loop-ranks : goal.decreases-loop-ranks
decreases-loop-ranks l = length l.table - l.ranks.count

abbrev pub invariant-loop-ranks : goal.invariant-loop-ranks
invariant-loop-ranks l = AreSettled l.table l.ranks.of.items l.ranks.count
