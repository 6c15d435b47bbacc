use Rattle.std.proofs.Common.{◌≡◌, ◌++◌, drop}
use Rattle.wire_uniques.specs.Statements as spec
use Rattle.wire_uniques.proofs.statements.+statements.Given as goal

abbrev pub invariant-in_stmts-loop-stmt : goal.invariant-in_stmts-loop-stmt
invariant-in_stmts-loop-stmt l = l.found.items ++ spec.in_stmts (drop l.stmt-index l.stmt-items) ≡ l.fn.found.items ++ spec.in_stmts l.stmts
