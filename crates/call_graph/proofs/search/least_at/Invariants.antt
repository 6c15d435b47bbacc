use Rattle.std.proofs.Common.{◌≡◌, drop}
use Rattle.call_graph.specs.Least.{least}
use Rattle.call_graph.specs.Ranks.{rank_of}
use Rattle.call_graph.specs.Search.{is_at}
use Rattle.call_graph.proofs.Walking.{with_least}
use Rattle.call_graph.proofs.search.least_at.Given as goal

abbrev pub invariant-loop-body : goal.invariant-loop-body
invariant-loop-body l =
    with_least l.least (least (λ g. is_at l.calls (rank_of l.far g)) (drop l.body-index l.bodies)) ≡ least (λ g. is_at l.calls (rank_of l.far g)) l.bodies
