use Rattle.std.proofs.Common.{◌≡◌, ◌==◌}
use Rattle.std.specs.Prelude.{option_map}
use Rattle.std.specs.List.{list_any}
use Rattle.call_graph.specs.Search.{is_end_in}
use Rattle.call_graph.specs.Shortest.{best_of, chain_from, chain_if}
use Rattle.call_graph.proofs.refusals.least_sync.Given as goal

abbrev pub invariant-loop-f : goal.invariant-loop-f
invariant-loop-f l =
    option_map (λ v. v.items) l.best ≡ best_of (λ f. chain_if (list_any (λ h. h == f) l.handlers) (chain_from l.table (is_end_in l.syncs) f)) l.f
