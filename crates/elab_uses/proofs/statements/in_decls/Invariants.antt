use Rattle.std.proofs.Common.{◌≡◌, ◌++◌, drop}
use Rattle.program_meaning.specs.Uses as spec
use Rattle.elab_uses.specs.Lists.{decls_of}
use Rattle.elab_uses.proofs.statements.in_decls.Given as goal

abbrev pub invariant-loop-decl : goal.invariant-loop-decl
invariant-loop-decl l = l.found.items ++ spec.in_decls (decls_of (drop l.decl-index l.decls)) ≡ l.fn.found.items ++ spec.in_decls (decls_of l.fn.decls)
