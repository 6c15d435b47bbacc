use Rattle.std.proofs.Common.{◌≡◌, ◌≤◌, ◌+◌, drop}
use Rattle.program_meaning.specs.Numbers as spec
use Rattle.elab_uses.specs.Lists.{decls_of}
use Rattle.elab_uses.proofs.numbers.bodies_in.Given as goal

abbrev pub invariant-loop-decl : goal.invariant-loop-decl
invariant-loop-decl l = (l.count + spec.bodies_in (decls_of (drop l.decl-index l.decls)) ≡ spec.bodies_in (decls_of l.decls)) × (l.count ≤ l.decl-index)
