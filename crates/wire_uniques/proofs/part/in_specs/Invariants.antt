use Rattle.std.proofs.Common.{◌≡◌, ◌++◌, drop}
use Rattle.wire_uniques.specs.Parts as spec
use Rattle.wire_uniques.proofs.part.in_specs.Given as goal

abbrev pub invariant-loop-t : goal.invariant-loop-t
invariant-loop-t l = l.found.items ++ spec.in_specs (drop l.t-index l.t-items) ≡ l.fn.found.items ++ spec.in_specs l.specs
