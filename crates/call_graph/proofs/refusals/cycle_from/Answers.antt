use Rattle.std.proofs.Common.{ap, ◌∙◌}
use Rattle.nesc_core.proofs.PlaceLemmas.{ok_more}
use Rattle.call_graph.specs.Shortest.{chain_from}
use Rattle.call_graph.proofs.Searching.{only_is, only_size}
use Rattle.call_graph.proofs.refusals.cycle_from.Goals as goal

pub chain-requires-clause-ends : goal.chain-requires-clause-ends
chain-requires-clause-ends c = only_size c.args.f _ c.deref.result.now (c.deref.ensures.value ∙ c.in_ok-ends.ensures)

pub returns : goal.returns
returns c =
    ok_more _ _ (λ o is. is ∙ ap (λ e. chain_from c.args.table.now e c.args.f) (only_is c.args.f _ c.deref.result.now c.requires.inside (c.deref.ensures.value ∙ c.in_ok-ends.ensures)))
    c.chain.result c.chain.ensures
