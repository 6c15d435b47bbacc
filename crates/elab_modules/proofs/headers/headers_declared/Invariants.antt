use Rattle.std.proofs.Common.{◌≡◌, drop, flat_map, map}
use Rattle.body_meaning.specs.View.{decl_of}
use Rattle.elab_making.specs.View.{whole_of}
use Rattle.elab_modules.proofs.headers.headers_declared.Given as goal
use Rattle.elab_modules.proofs.Turns.{behind}
use Rattle.elab_rules.specs.Tells.{Tells}
use Rattle.program_meaning.specs.Making.{after}
use Rattle.program_meaning.specs.Modules.{headers_declared}
use Rattle.program_meaning.specs.Walk.{Told}

abbrev pub invariant-loop-decls : goal.invariant-loop-decls
invariant-loop-decls l =
    (t : Told) → Tells l.m t
    → headers_declared t (flat_map (λ h. map decl_of h.now) l.headers) (whole_of l.fn.whole)
    ≡ after (headers_declared t (flat_map (λ h. map decl_of h.now) (drop l.decls-index l.headers)) (whole_of l.whole)) (behind l.numbers.items)
