-- The depth over the calls so far.
use Rattle.std.proofs.Common.{◌≡◌, ℕ}
use Rattle.msp_layout.specs.Laid.{told}
use Rattle.msp_layout.specs.Search.{IsDeepestSoFar}
use Rattle.msp_layout.proofs.depth.depth_over.Given as goal

abbrev pub invariant-loop-callee : goal.invariant-loop-callee
invariant-loop-callee l = (depth : ℕ) × IsDeepestSoFar l.code l.f l.callee-index depth × (l.deepest ≡ told depth)
