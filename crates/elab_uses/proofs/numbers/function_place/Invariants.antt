use Rattle.std.proofs.Common.{◌≡◌, ◌≤◌, drop}
use Rattle.program_meaning.specs.Numbers as spec
use Rattle.elab_uses.specs.Lists.{decls_of}
use Rattle.elab_uses.proofs.Places.{place_from}
use Rattle.elab_uses.proofs.numbers.function_place.Given as goal

abbrev pub invariant-loop-decl : goal.invariant-loop-decl
invariant-loop-decl l = (place_from (spec.is_function l.name) l.place (decls_of (drop l.decl-index l.decls)) ≡ spec.place_of (spec.is_function l.name) (decls_of l.decls)) × (l.place ≤ l.decl-index)
