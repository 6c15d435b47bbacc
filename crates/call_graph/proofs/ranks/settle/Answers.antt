use Rattle.std.proofs.Common.{◌≡◌, ◌∙◌, ap, sym, true, arith}
use Rattle.call_graph.specs.Ranks.{can_settle}
use Rattle.call_graph.proofs.Settling.{room, settled_more}
use Rattle.call_graph.proofs.ranks.settle.Goals as goal

pub overflow_add-ranks : goal.overflow_add-ranks
overflow_add-ranks c =
    let can : can_settle c.args.table.now c.args.ranks.now.of.items c.args.f ≡ true =
    ap (λ rs. can_settle c.args.table.now rs c.args.f) (sym c.deref.ensures.value) ∙ sym c.can_settle.ensures ∙ c.if-can_settle.true in
    omega (arith, room c.args.table.now c.args.ranks.now.of.items c.args.ranks.now.count c.requires.settled c.args.f can, c.requires.small)

pub returns-then-can_settle-clause-settled : goal.returns-then-can_settle-clause-settled
returns-then-can_settle-clause-settled c =
    let can : can_settle c.args.table.now c.args.ranks.now.of.items c.args.f ≡ true =
    ap (λ rs. can_settle c.args.table.now rs c.args.f) (sym c.deref.ensures.value) ∙ sym c.can_settle.ensures ∙ c.if-can_settle.true in
    settled_more c.args.table.now c.args.ranks.now.of.items c.args.ranks.now.count c.requires.settled c.args.f can
