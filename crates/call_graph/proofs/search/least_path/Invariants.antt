use Rattle.std.proofs.Common.{◌≡◌, ◌<◌, ℕ, false}
use Rattle.std.specs.List.{list_any}
use Rattle.call_graph.specs.Graph.{row_at}
use Rattle.call_graph.specs.Least.{can}
use Rattle.call_graph.specs.Search.{AreFar, is_end_in}
use Rattle.call_graph.proofs.search.least_path.Given as goal

abbrev pub invariant-loop-calls : goal.invariant-loop-calls
invariant-loop-calls l =
    AreFar l.table l.ends l.far.items l.calls
    × ((m : ℕ) → m < l.calls → list_any (can (row_at l.table) (is_end_in l.ends) m) l.roots ≡ false)
