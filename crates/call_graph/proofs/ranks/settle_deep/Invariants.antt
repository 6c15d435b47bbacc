use Rattle.call_graph.specs.Ranks.{AreSettled}
use Rattle.call_graph.proofs.ranks.settle_deep.Given as goal

abbrev pub invariant-loop : goal.invariant-loop
invariant-loop l = AreSettled l.table l.ranks.of.items l.ranks.count
