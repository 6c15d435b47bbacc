use Rattle.std.proofs.Common.{◌≡◌, ◌==◌}
use Rattle.std.specs.Prelude.{option_map}
use Rattle.call_graph.specs.Shortest.{best_of, chain_from}
use Rattle.call_graph.proofs.refusals.least_cycle.Given as goal

abbrev pub invariant-loop-f : goal.invariant-loop-f
invariant-loop-f l = option_map (λ v. v.items) l.best ≡ best_of (λ f. chain_from l.table (λ g. g == f) f) l.f
