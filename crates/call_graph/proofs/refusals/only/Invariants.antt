use Rattle.std.proofs.Common.{◌≡◌, ◌==◌, map}
use Rattle.call_graph.specs.Paths.{below}
use Rattle.call_graph.proofs.refusals.only.Given as goal

abbrev pub invariant-loop-g : goal.invariant-loop-g
invariant-loop-g l = l.marks.items ≡ map (λ g. g == l.f) (below l.g)
