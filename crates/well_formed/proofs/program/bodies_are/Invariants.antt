use Rattle.std.proofs.Common.{drop, map}
use Rattle.nesc_core.specs.WellFormed.{IsBody}
use Rattle.nesc_core.specs.View.{body_of, program_of}
use Rattle.well_formed.specs.Formed.{Each}
use Rattle.well_formed.proofs.program.bodies_are.Given as goal

abbrev pub invariant-loop-body : goal.invariant-loop-body
invariant-loop-body l = Each (IsBody (program_of l.p)) (map body_of (drop l.body-index l.body-items)) → Each (IsBody (program_of l.p)) (map body_of l.body-items)
