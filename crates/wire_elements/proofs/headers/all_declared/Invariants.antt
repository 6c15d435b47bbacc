use Rattle.std.proofs.Common.{◌≡◌, map, drop}
use Rattle.elab_meaning.specs.View.{state_of}
use Rattle.body_meaning.specs.View.{decl_of}
use Rattle.wire_facts.specs.Seen as spec
use Rattle.wire_elements.specs.View.{early_env}
use Rattle.wire_elements.proofs.headers.all_declared.Given as goal

abbrev pub invariant-loop-d : goal.invariant-loop-d
invariant-loop-d l =
    spec.all_declared (early_env l.fn.early) (map decl_of l.fn.decls) (state_of l.fn.work)
    ≡ spec.all_declared (early_env l.early) (map decl_of (drop l.d-index l.decls)) (state_of l.work)
