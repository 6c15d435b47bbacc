use Rattle.std.proofs.Common.{◌≡◌, drop}
use Rattle.elab_meaning.specs.View.{state_of}
use Rattle.wire_facts.specs.Components.{components_of}
use Rattle.wire_facts.specs.Seen as spec
use Rattle.wire_elements.specs.View.{early_env}
use Rattle.wire_elements.proofs.headers.headers_declared.Given as goal

abbrev pub invariant-loop-loaded : goal.invariant-loop-loaded
invariant-loop-loaded l =
    spec.headers_declared (early_env l.fn.early) (components_of l.fn.units) (state_of l.fn.work)
    ≡ spec.headers_declared (early_env l.early) (components_of (drop l.loaded-index l.units)) (state_of l.work)
