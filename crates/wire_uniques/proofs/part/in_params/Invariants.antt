use Rattle.std.proofs.Common.{◌≡◌, ◌++◌, drop}
use Rattle.wire_uniques.specs.Parts as spec
use Rattle.wire_uniques.proofs.part.in_params.Given as goal

abbrev pub invariant-loop-param : goal.invariant-loop-param
invariant-loop-param l = l.found.items ++ spec.in_params (drop l.param-index l.param-items) ≡ l.fn.found.items ++ spec.in_params l.params
