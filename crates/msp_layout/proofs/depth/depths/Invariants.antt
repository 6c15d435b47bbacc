-- The functions so far are begun, and between two of them none is open.
use Rattle.std.proofs.Common.{◌≡◌, ℕ, ◌<◌, ◌≤◌, []}
use Rattle.msp_layout.specs.Search.{IsSearch, IsBegun, visit_at, steps_left}
use Rattle.msp_layout.proofs.depth.depths.Given as goal

abbrev pub invariant-loop-f : goal.invariant-loop-f
invariant-loop-f l = IsSearch l.code l.visits.items l.trail.items × ((g : ℕ) → g < l.f → IsBegun (visit_at l.visits.items g)) × (l.trail.items ≡ [])

abbrev pub invariant-loop-trail : goal.invariant-loop-trail
invariant-loop-trail l = IsSearch l.code l.visits.items l.trail.items × ((g : ℕ) → g ≤ l.f → IsBegun (visit_at l.visits.items g))

abbrev pub decreases-loop-trail : goal.decreases-loop-trail
decreases-loop-trail l = steps_left l.code l.visits.items
