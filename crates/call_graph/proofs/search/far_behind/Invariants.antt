use Rattle.std.proofs.Common.{◌≡◌, map}
use Rattle.call_graph.specs.Paths.{below}
use Rattle.call_graph.specs.Ranks.{rank_of}
use Rattle.call_graph.specs.Search.{further}
use Rattle.call_graph.proofs.search.far_behind.Given as goal

abbrev pub invariant-loop-f : goal.invariant-loop-f
invariant-loop-f l = l.next.items ≡ map (λ f. further l.table l.far l.calls f (rank_of l.far f)) (below l.f)
