use Rattle.std.proofs.Common.{◌≡◌, map, drop}
use Rattle.elab_meaning.specs.View.{state_of}
use Rattle.wire_facts.specs.Components.{arg_of, param_of}
use Rattle.wire_facts.specs.Scopes.{no_scope}
use Rattle.wire_facts.specs.Seen as spec
use Rattle.wire_scopes.specs.View.{base_view, scope_of}
use Rattle.wire_elements.specs.View.{early_env}
use Rattle.wire_elements.proofs.parameters.params_declared.Given as goal

abbrev pub invariant-loop-x : goal.invariant-loop-x
invariant-loop-x l =
    spec.params_declared (base_view l.fn.base) (early_env l.fn.making.maker.now) (early_env l.fn.making.made.now) l.fn.making.at l.fn.making.line
    (map param_of l.fn.making.params.now) (map arg_of l.fn.args) no_scope (state_of l.fn.work)
    ≡ spec.params_declared (base_view l.base) (early_env l.making.maker.now) (early_env l.making.made.now) l.making.at l.making.line
    (map param_of l.params) (map arg_of (drop l.x-index l.args)) (scope_of l.scope) (state_of l.work)
