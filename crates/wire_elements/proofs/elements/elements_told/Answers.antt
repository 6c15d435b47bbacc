use Rattle.std.proofs.Common.{◌<◌, ◌≤◌, length, arith}
use Rattle.elab_exprs.proofs.Faults.{stops}
use Rattle.elab_meaning.specs.View.{state_of}
use Rattle.wire_scopes.specs.Keys.{types_in}
use Rattle.wire_elements.specs.View.{early_env}
use Rattle.wire_elements.proofs.Turns.{element_passed, element_failed, elements_end}
use Rattle.wire_elements.proofs.elements.elements_told.Goals as goal

pub returns-in_err-one : goal.returns-in_err-one
returns-in_err-one c =
    let h : c.loop-e.e-index < length c.args.elems.now = omega (arith, c.loop-e-test.true) in
    stops (λ v. (v.items, types_in c.element_told.new.types)) c.from_residual.result c.in_err-one.field-0.0 _ _ c.from_residual.ensures
    (element_failed (early_env c.args.early.now) (types_in c.loop-e.types) c.loop-e.facts.items c.args.elems.now c.loop-e.e-index (state_of c.loop-e.work) _ c.e-item.result c.in_err-one.field-0.0
    c.loop-e.invariant h c.e-item.is c.in_err-one.ensures)

pub loop-e-preserved : goal.loop-e-preserved
loop-e-preserved c =
    let h : c.loop-e.e-index < length c.args.elems.now = omega (arith, c.loop-e-test.true) in
    element_passed (early_env c.args.early.now) (types_in c.loop-e.types) c.loop-e.facts.items c.args.elems.now c.loop-e.e-index (state_of c.loop-e.work) _ c.e-item.result
    c.in_ok-one.one (types_in c.element_told.new.types) _ (state_of c.element_told.new.work)
    c.loop-e.invariant h c.e-item.is c.in_ok-one.ensures c.in_ok-push.ensures.items

pub returns : goal.returns
returns c =
    let h : length c.args.elems.now ≤ c.loop-e.e-index = omega (arith, c.loop-e-test.false) in
    elements_end (early_env c.args.early.now) (types_in c.loop-e.types) c.loop-e.facts.items c.args.elems.now c.loop-e.e-index (state_of c.loop-e.work) _ c.loop-e.invariant h
