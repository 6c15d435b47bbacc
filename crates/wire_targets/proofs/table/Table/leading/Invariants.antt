use Rattle.std.proofs.Common.{◌≡◌, ℕ, ◌-◌, length}
use Rattle.wire_targets.specs.Next.{first_from}
use Rattle.wire_targets.proofs.NextLemmas.{Stands}
use Rattle.wire_targets.proofs.table.Table.leading.Given as goal

abbrev pub invariant-loop-at : goal.invariant-loop-at
invariant-loop-at l = (from : ℕ) → l.fn.first ≡ first_from l.wires l.end from → Stands l.wires l.end from l.at

abbrev pub decreases-loop-at : goal.decreases-loop-at
decreases-loop-at l = length l.wires - l.at
