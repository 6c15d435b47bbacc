use Rattle.std.proofs.Common.{◌+◌, ◌≤◌, drop, map, sum_by}
use Rattle.nesc_core.specs.Plain.{Ty}
use Rattle.nesc_core.specs.Size.{layout_of}
use Rattle.nesc_core.specs.Weights.{even}
use Rattle.nesc_core.specs.View.{structs_of, type_of}
use Rattle.well_formed.proofs.bodies.left_by_locals.Given as goal

abbrev pub invariant-loop-t : goal.invariant-loop-t
invariant-loop-t l =
    sum_by (λ (t : Ty). even (layout_of (structs_of l.s) t).size) (map type_of l.types) + l.left ≤ l.fn.left + sum_by (λ (t : Ty). even (layout_of (structs_of l.s) t).size) (map type_of (drop l.t-index l.types))
