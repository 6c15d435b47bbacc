use Rattle.std.proofs.Common.{◌≡◌, ◌≤◌, ◌<◌, ℕ, false}
use Rattle.call_graph.specs.Ranks.{AreSettled, can_settle}
use Rattle.call_graph.proofs.ranks.settle_each.Given as goal

abbrev pub invariant-loop-f : goal.invariant-loop-f
invariant-loop-f l =
    AreSettled l.table l.ranks.of.items l.ranks.count
    × (l.fn.ranks.count ≤ l.ranks.count)
    × (l.ranks.count ≡ l.fn.ranks.count → (l.ranks.of.items ≡ l.fn.ranks.of.items) × ((g : ℕ) → g < l.f → can_settle l.table l.fn.ranks.of.items g ≡ false))
