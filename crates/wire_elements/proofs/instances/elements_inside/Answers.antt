use Rattle.std.proofs.Common.{[], map}
use Rattle.elab_meaning.specs.View.{state_of}
use Rattle.wire_facts.specs.Components.{element_of}
use Rattle.wire_facts.specs.Seen.{elements_told}
use Rattle.wire_scopes.specs.Keys.{types_in}
use Rattle.wire_scopes.specs.View.{base_view, own_of, scope_of}
use Rattle.wire_elements.specs.View.{early_env}
use Rattle.wire_elements.proofs.Inside.{inside_gives}
use Rattle.wire_elements.proofs.instances.elements_inside.Goals as goal

pub returns : goal.returns
returns c =
    inside_gives (λ v. (v.items, types_in c.elements_told-told.new.types)) (base_view c.args.base) (scope_of c.args.scope)
    (elements_told (early_env c.args.early.now) (types_in c.args.types.now) [] (map element_of c.args.elems.now))
    (state_of c.args.work.now) (state_of c.entered.new.work) (state_of c.elements_told-told.new.work) (state_of c.left.new.work) (own_of c.in_ok-before.before) c.elements_told-told.result c.left.result
    c.in_ok-before.ensures.was c.in_ok-before.ensures.now c.elements_told-told.ensures c.left.ensures
