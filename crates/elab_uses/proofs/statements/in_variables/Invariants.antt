use Rattle.std.proofs.Common.{◌≡◌, ◌++◌, drop, map}
use Rattle.body_meaning.specs.View.{variable_of}
use Rattle.program_meaning.specs.Uses as spec
use Rattle.elab_uses.proofs.statements.in_variables.Given as goal

abbrev pub invariant-loop-variable : goal.invariant-loop-variable
invariant-loop-variable l = l.found.items ++ spec.in_variables (map variable_of (drop l.variable-index l.variable-items)) ≡ l.fn.found.items ++ spec.in_variables (map variable_of l.variables)
