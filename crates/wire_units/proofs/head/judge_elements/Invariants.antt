use Rattle.std.proofs.Common.{◌≡◌, length}
use Rattle.wire_units.specs.Heads.{judged_elements}
use Rattle.wire_units.proofs.head.judge_elements.Given as goal

abbrev pub invariant-loop-elem : goal.invariant-loop-elem
invariant-loop-elem l = judged_elements l.table.units.now l.scope l.rest ≡ judged_elements l.table.units.now l.fn.scope l.elems

abbrev pub decreases-loop-elem : goal.decreases-loop-elem
decreases-loop-elem l = length l.rest
