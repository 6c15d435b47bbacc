use Rattle.call_graph.proofs.Refusing.{all_ranked, the_cycle}
use Rattle.call_graph.proofs.refusals.find_cycle.Goals as goal

pub returns-then-all_some : goal.returns-then-all_some
returns-then-all_some c = all_ranked c.args.table.now c.in_ok-ranks.ranks.items c.deref.result.now c.in_ok-ranks.ensures c.deref.ensures.value c.all_some.result c.all_some.ensures c.if-all_some.true

pub returns : goal.returns
returns c =
    the_cycle c.args.table.now c.requires.named c.in_ok-ranks.ranks.items c.deref.result.now c.in_ok-ranks.ensures c.deref.ensures.value c.all_some.result c.all_some.ensures c.if-all_some.false
    _ c.in_ok-found.ensures
