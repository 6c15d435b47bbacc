use Rattle.std.proofs.Common.{◌<◌, drop, map}
use Rattle.nesc_core.specs.Plain.{Case}
use Rattle.nesc_core.specs.View.{case_of, stmts_of}
use Rattle.nesc_core.specs.WellFormed.{count_stmts}
use Rattle.well_formed.specs.Formed.{Each}
use Rattle.well_formed.proofs.stmts.start_in.Given as goal

abbrev pub invariant-loop-case : goal.invariant-loop-case
invariant-loop-case l =
    Each (λ (c : Case). c.start < count_stmts (stmts_of l.list)) (map case_of (drop l.case-index l.cases)) → Each (λ (c : Case). c.start < count_stmts (stmts_of l.list)) (map case_of l.cases)
