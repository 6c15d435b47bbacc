use Rattle.std.proofs.Common.{length}
use Rattle.wire_paths.specs.Answers.{Answer}
use Rattle.wire_paths.specs.Wires.{values_of}
use Rattle.wire_paths.specs.Paths.{AtValues}
use Rattle.wire_paths.proofs.paths.at_values.Given as goal

-- what the rest gives is what the whole gives
abbrev pub invariant-loop-value : goal.invariant-loop-value
invariant-loop-value l =
    (answer : Answer) → AtValues l.pairs l.net.wires.items l.place.instance l.place.element l.greatest l.rest answer
    → AtValues l.pairs l.net.wires.items l.place.instance l.place.element l.greatest (values_of l.net.wires.items) answer

abbrev pub decreases-loop-value : goal.decreases-loop-value
decreases-loop-value l = length l.rest
