use Rattle.std.proofs.Common.{◌≡◌, [], map, drop}
use Rattle.elab_meaning.specs.View.{state_of}
use Rattle.wire_facts.specs.Components.{element_of}
use Rattle.wire_facts.specs.Seen as spec
use Rattle.wire_scopes.specs.Keys.{types_in}
use Rattle.wire_elements.specs.View.{early_env}
use Rattle.wire_elements.proofs.elements.elements_told.Given as goal

abbrev pub invariant-loop-e : goal.invariant-loop-e
invariant-loop-e l =
    spec.elements_told (early_env l.fn.early) (types_in l.fn.types) [] (map element_of l.fn.elems) (state_of l.fn.work)
    ≡ spec.elements_told (early_env l.early) (types_in l.types) l.facts.items (map element_of (drop l.e-index l.elems)) (state_of l.work)
