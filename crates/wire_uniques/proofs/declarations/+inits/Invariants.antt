use Rattle.std.proofs.Common.{◌≡◌, ◌++◌, drop}
use Rattle.wire_uniques.specs.Statements as spec
use Rattle.wire_uniques.proofs.declarations.+inits.Given as goal

abbrev pub invariant-in_inits-loop-init : goal.invariant-in_inits-loop-init
invariant-in_inits-loop-init l = l.found.items ++ spec.in_inits (drop l.init-index l.init-items) ≡ l.fn.found.items ++ spec.in_inits l.inits
