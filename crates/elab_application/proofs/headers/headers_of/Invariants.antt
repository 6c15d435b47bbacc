use Rattle.std.proofs.Common.{◌≡◌, ◌++◌, flat_map, map, length}
use Rattle.body_meaning.specs.View.{decl_of}
use Rattle.wire_facts.specs.Components.{components_of}
use Rattle.elab_application.specs.Given.{decls_of}
use Rattle.elab_application.proofs.headers.headers_of.Given as goal

abbrev pub invariant-loop-loaded : goal.invariant-loop-loaded
invariant-loop-loaded l = flat_map (λ ds. map decl_of ds.now) l.headers.items ++ decls_of (components_of l.rest) ≡ decls_of (components_of l.units)

abbrev pub decreases-loop-loaded : goal.decreases-loop-loaded
decreases-loop-loaded l = length l.rest
