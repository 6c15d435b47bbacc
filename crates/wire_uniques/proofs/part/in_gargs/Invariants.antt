use Rattle.std.proofs.Common.{◌≡◌, ◌++◌, drop}
use Rattle.wire_uniques.specs.Parts as spec
use Rattle.wire_uniques.proofs.part.in_gargs.Given as goal

abbrev pub invariant-loop-arg : goal.invariant-loop-arg
invariant-loop-arg l = l.found.items ++ spec.in_gargs (drop l.arg-index l.arg-items) ≡ l.fn.found.items ++ spec.in_gargs l.args
