use Rattle.call_graph.proofs.Settling.{begun_as, ranks_are}
use Rattle.call_graph.proofs.ranks.ranks_of.Goals as goal

pub settle_deep-requires-clause-settled : goal.settle_deep-requires-clause-settled
settle_deep-requires-clause-settled c = begun_as c.args.table.now c.in_ok-unranked.field-0.items c.in_ok-unranked.ensures

pub returns : goal.returns
returns c = ranks_are c.args.table.now c.settle_all.new.ranks.of.items c.settle_all.new.ranks.count c.settle_all.ensures.settled c.settle_all.ensures.stuck
