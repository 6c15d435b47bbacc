use Rattle.std.proofs.Common.{◌≡◌, ◌++◌, drop}
use Rattle.wire_uniques.specs.Statements as spec
use Rattle.wire_uniques.proofs.part.in_decls.Given as goal

abbrev pub invariant-loop-decl : goal.invariant-loop-decl
invariant-loop-decl l = l.found.items ++ spec.in_decls (drop l.decl-index l.decl-items) ≡ l.fn.found.items ++ spec.in_decls l.decls
