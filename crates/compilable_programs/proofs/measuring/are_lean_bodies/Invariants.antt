use Rattle.std.proofs.Common.{drop, map}
use Rattle.nesc_core.specs.Plain.{Body}
use Rattle.nesc_core.specs.View.{body_of}
use Rattle.well_formed.specs.Formed.{Each}
use Rattle.lean_pace.specs.Lean.{IsLeanStmt}
use Rattle.compilable_programs.proofs.measuring.are_lean_bodies.Given as goal

abbrev pub invariant-loop-body : goal.invariant-loop-body
invariant-loop-body l = Each (λ (b : Body). IsLeanStmt b.code) (map body_of (drop l.body-index l.body-items)) → Each (λ (b : Body). IsLeanStmt b.code) (map body_of l.body-items)
