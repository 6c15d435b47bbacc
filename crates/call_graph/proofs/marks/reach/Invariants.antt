use Rattle.std.proofs.Common.{ℕ, []}
use Rattle.call_graph.proofs.Reaching.{Reaching, weight}
use Rattle.call_graph.proofs.marks.reach.Given as goal

abbrev pub decreases-loop-f : goal.decreases-loop-f
decreases-loop-f l = weight l.marks.items l.waiting.items

abbrev pub invariant-loop-f : goal.invariant-loop-f
invariant-loop-f l = (owner : ℕ) × Reaching l.table l.roots l.marks.items l.waiting.items [] owner []
