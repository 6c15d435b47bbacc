use Rattle.std.proofs.Common.{ℕ, ◌<◌}
use Rattle.call_graph.specs.Graph.{IsMarked}
use Rattle.call_graph.proofs.refusals.any_both.Given as goal

abbrev pub invariant-loop-f : goal.invariant-loop-f
invariant-loop-f l = (g : ℕ) → g < l.f → IsMarked l.syncs g → IsMarked l.is_async g → ⊥
