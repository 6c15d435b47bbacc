use Rattle.std.proofs.Common.{◌≡◌, drop}
use Rattle.least_paths.specs.Visits.{all_ways, all_waiting}
use Rattle.least_paths.proofs.breadth.visit.Given as goal

abbrev pub invariant-loop-body : goal.invariant-loop-body
invariant-loop-body l =
    (all_ways l.way l.ways.items (drop l.body-index l.bodies) ≡ all_ways l.way l.fn.ways.items l.bodies)
    × (all_waiting l.way l.ways.items l.waiting.items (drop l.body-index l.bodies) ≡ all_waiting l.way l.fn.ways.items l.fn.waiting.items l.bodies)
