use Rattle.std.proofs.Common.{◌≡◌, ◌++◌, drop}
use Rattle.wire_uniques.specs.Statements as spec
use Rattle.wire_uniques.proofs.declarations.in_variables.Given as goal

abbrev pub invariant-loop-variable : goal.invariant-loop-variable
invariant-loop-variable l = l.found.items ++ spec.in_variables (drop l.variable-index l.variable-items) ≡ l.fn.found.items ++ spec.in_variables l.variables
