use Rattle.wire_targets.specs.Targets.{WalksAs, weight}
use Rattle.wire_targets.proofs.reached.targets.Given as goal

abbrev pub invariant-loop-walk : goal.invariant-loop-walk
invariant-loop-walk l = WalksAs l.wires l.sinks l.fn.start l.walk

abbrev pub decreases-loop-walk : goal.decreases-loop-walk
decreases-loop-walk l = weight l.walk
