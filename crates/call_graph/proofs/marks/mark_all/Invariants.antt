use Rattle.std.proofs.Common.{◌≡◌, drop}
use Rattle.call_graph.specs.Reach.{all_marked, all_waiting}
use Rattle.call_graph.proofs.marks.mark_all.Given as goal

abbrev pub invariant-loop-body : goal.invariant-loop-body
invariant-loop-body l =
    (all_marked l.marks.items (drop l.body-index l.bodies) ≡ all_marked l.fn.marks.items l.bodies)
    × (all_waiting l.marks.items l.waiting.items (drop l.body-index l.bodies) ≡ all_waiting l.fn.marks.items l.fn.waiting.items l.bodies)
