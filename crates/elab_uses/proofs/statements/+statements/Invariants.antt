use Rattle.std.proofs.Common.{◌≡◌, ◌++◌, drop}
use Rattle.program_meaning.specs.Uses as spec
use Rattle.elab_uses.specs.Lists.{stmts_of}
use Rattle.elab_uses.proofs.statements.+statements.Given as goal

abbrev pub invariant-in_stmts-loop-stmt : goal.invariant-in_stmts-loop-stmt
invariant-in_stmts-loop-stmt l = l.found.items ++ spec.in_stmts (stmts_of (drop l.stmt-index l.stmt-items)) ≡ l.fn.found.items ++ spec.in_stmts (stmts_of l.stmts)
