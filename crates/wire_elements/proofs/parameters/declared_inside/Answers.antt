use Rattle.elab_meaning.specs.View.{state_of}
use Rattle.wire_facts.specs.Components.{param_of}
use Rattle.wire_facts.specs.Seen.{param_declared}
use Rattle.wire_scopes.specs.View.{base_view, own_of, scope_of}
use Rattle.wire_elements.specs.Given.{given_of}
use Rattle.wire_elements.specs.View.{early_env}
use Rattle.wire_elements.proofs.Inside.{inside_gives}
use Rattle.wire_elements.proofs.parameters.declared_inside.Goals as goal

pub returns : goal.returns
returns c =
    inside_gives (λ _. tt) (base_view c.args.base) (scope_of c.args.scope)
    (param_declared (early_env c.args.making.now.made.now) c.args.making.now.at c.args.making.now.line (param_of c.args.p.now) (given_of c.args.x))
    (state_of c.args.work.now) (state_of c.entered.new.work) (state_of c.param_declared-declared.new.work) (state_of c.left.new.work) (own_of c.in_ok-before.before) c.param_declared-declared.result c.left.result
    c.in_ok-before.ensures.was c.in_ok-before.ensures.now c.param_declared-declared.ensures c.left.ensures
