use Rattle.std.proofs.Common.{◌≡◌, map, drop}
use Rattle.body_meaning.specs.View.{decl_of}
use Rattle.elab_making.specs.View.{whole_of}
use Rattle.elab_rules.specs.Tells.{Tells}
use Rattle.elab_walk.proofs.walk.declarations.Given as goal
use Rattle.program_meaning.specs.Walk as spec

abbrev pub invariant-loop-d : goal.invariant-loop-d
invariant-loop-d l =
    (t : spec.Told) → Tells l.m t
    → spec.declarations t (map decl_of l.decls) (whole_of l.fn.whole) ≡ spec.declarations t (map decl_of (drop l.d-index l.decls)) (whole_of l.whole)
