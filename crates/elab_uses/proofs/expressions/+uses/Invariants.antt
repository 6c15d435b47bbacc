-- What was found, with what is left to be found, is all.
use Rattle.std.proofs.Common.{◌≡◌, ◌++◌, drop}
use Rattle.nesc_tree.specs.View.{exprs_of}
use Rattle.program_meaning.specs.Uses as spec
use Rattle.elab_uses.proofs.expressions.+uses.Given as goal

abbrev pub invariant-in_list-loop-e : goal.invariant-in_list-loop-e
invariant-in_list-loop-e l = l.found.items ++ spec.in_exprs (exprs_of (drop l.e-index l.e-items)) ≡ l.fn.found.items ++ spec.in_exprs (exprs_of l.list)
