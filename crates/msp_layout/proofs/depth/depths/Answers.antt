-- Where all functions are begun and none is open, all are done.
use Rattle.std.proofs.Common.{◌≡◌, ℕ, ◌<◌, List, [], length, arith, refl, ap}
use Rattle.msp_isa.specs.declared.code.CodeFn.{CodeFn}
use Rattle.msp_layout.specs.declared.depth.Visit.{Visit}
use Rattle.msp_layout.specs.declared.depth.Visit.TheVariants.{New, Open, Done}
use Rattle.msp_layout.specs.Search.{HasDepth, IsSearch, IsBegun, IsDone, visit_at, depth_of}
use Rattle.msp_layout.proofs.depth.depths.Goals as goal

settled : (code : List CodeFn) (visits : List Visit) (trail : List ℕ) (f : ℕ) (v : Visit) → visit_at visits f ≡ v → IsSearch code visits trail → trail ≡ [] → IsBegun v → HasDepth code (λ g. g ≡ f) (depth_of (visit_at visits f))
settled code visits trail f New e s none b = absurd b
settled code visits trail f (Open next) e s none b = let at = s.stacked f next e in let h : at.0 < 0 = rw (ap length none) at at.1 in absurd (omega arith)
settled code visits trail f (Done n) e s none b = let d : IsDone (visit_at visits f) = rw e tt in s.done f d

pub returns-clause-each : goal.returns-clause-each
returns-clause-each c = λ f lt.
    settled c.args.code.now c.loop-f.visits.items c.loop-f.trail.items f (visit_at c.loop-f.visits.items f) refl c.loop-f.invariant.0 c.loop-f.invariant.2 (c.loop-f.invariant.1 f (omega arith))
