use Rattle.std.proofs.Common.{◌≡◌, [], map, drop}
use Rattle.nesc_tree.specs.View.{spec_of}
use Rattle.elab_meaning.specs.View.{state_of}
use Rattle.wire_facts.specs.Seen as spec
use Rattle.wire_scopes.specs.Keys.{types_in}
use Rattle.wire_elements.specs.View.{early_env}
use Rattle.wire_elements.proofs.elements.args_told.Given as goal

abbrev pub invariant-loop-t : goal.invariant-loop-t
invariant-loop-t l =
    spec.args_told (early_env l.fn.early) l.fn.at (types_in l.fn.types) [] (map spec_of l.fn.args) (state_of l.fn.work)
    ≡ spec.args_told (early_env l.early) l.at (types_in l.types) l.numbers.items (map spec_of (drop l.t-index l.args)) (state_of l.work)
