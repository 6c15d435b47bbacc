use Rattle.std.proofs.Common.{length}
use Rattle.call_graph.proofs.Settling.{at_most_all, shrinks}
use Rattle.call_graph.proofs.ranks.settle_all.Goals as goal

pub loop-ranks-smaller : goal.loop-ranks-smaller
loop-ranks-smaller c =
    shrinks (length c.args.table.now) c.loop-ranks.ranks.count c.settle_each.new.ranks.count c.settle_each.ensures.grown c.if-ranks-before.false
    (at_most_all c.args.table.now c.settle_each.new.ranks.of.items c.settle_each.new.ranks.count c.settle_each.ensures.settled)
