use Rattle.std.proofs.Common.{◌≡◌, map, drop}
use Rattle.core_meaning.specs.Flow as flow
use Rattle.nesc_core.specs.View.{case_of}
use Rattle.core_act.proofs.cases.start_of_value.Given as goal

abbrev pub invariant-loop-case : goal.invariant-loop-case
invariant-loop-case l = flow.start_of_value (map case_of l.cases) l.v ≡ flow.start_of_value (map case_of (drop l.case-index l.cases)) l.v
