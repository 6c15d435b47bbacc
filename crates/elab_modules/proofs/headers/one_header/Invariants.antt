use Rattle.std.proofs.Common.{◌≡◌, map, drop}
use Rattle.body_meaning.specs.View.{decl_of}
use Rattle.elab_making.specs.View.{whole_of}
use Rattle.elab_modules.proofs.headers.one_header.Given as goal
use Rattle.elab_modules.proofs.Turns.{behind}
use Rattle.elab_rules.specs.Tells.{Tells}
use Rattle.program_meaning.specs.Making.{after}
use Rattle.program_meaning.specs.Modules.{headers_declared}
use Rattle.program_meaning.specs.Walk.{Told}

abbrev pub invariant-loop-d : goal.invariant-loop-d
invariant-loop-d l =
    (t : Told) → Tells l.m t
    → headers_declared t (map decl_of l.decls) (whole_of l.fn.whole) ≡ after (headers_declared t (map decl_of (drop l.d-index l.decls)) (whole_of l.whole)) (behind l.numbers.items)
