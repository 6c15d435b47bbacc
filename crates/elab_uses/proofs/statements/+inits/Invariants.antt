use Rattle.std.proofs.Common.{◌≡◌, ◌++◌, drop}
use Rattle.program_meaning.specs.Uses as spec
use Rattle.elab_uses.specs.Lists.{inits_of}
use Rattle.elab_uses.proofs.statements.+inits.Given as goal

abbrev pub invariant-in_inits-loop-init : goal.invariant-in_inits-loop-init
invariant-in_inits-loop-init l = l.found.items ++ spec.in_inits (inits_of (drop l.init-index l.init-items)) ≡ l.fn.found.items ++ spec.in_inits (inits_of l.inits)
