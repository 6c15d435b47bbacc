use Rattle.least_paths.proofs.Steps.{IsGoing}
use Rattle.least_paths.proofs.Visiting.{weight}
use Rattle.least_paths.proofs.breadth.search.Given as goal

abbrev pub decreases-loop-f : goal.decreases-loop-f
decreases-loop-f l = weight l.ways.items l.waiting.items

abbrev pub invariant-loop-f : goal.invariant-loop-f
invariant-loop-f l = IsGoing l.table l.roots l.ways.items l.order.items l.waiting.items
