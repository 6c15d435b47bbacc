use Rattle.std.proofs.Common.{◌≡◌, ◌<◌, ◌≤◌, [], length, arith}
use Rattle.std.proofs.lemmas.List.{nil_from_length}
use Rattle.elab_exprs.proofs.Faults.{stops}
use Rattle.elab_meaning.specs.View.{state_of}
use Rattle.wire_scopes.specs.View.{base_view, scope_of}
use Rattle.wire_elements.specs.View.{early_env}
use Rattle.wire_elements.proofs.Turns.{param_passed, param_failed, params_end, params_over}
use Rattle.wire_elements.proofs.parameters.params_declared.Goals as goal

pub returns : goal.returns
returns c =
    let h : length c.args.args.now ≤ c.loop-x.x-index = omega (arith, c.loop-x-test.false) in
    params_end (base_view c.args.base) (early_env c.args.making.now.maker.now) (early_env c.args.making.now.made.now) c.args.making.now.at c.args.making.now.line
    c.loop-x.params.now c.args.args.now c.loop-x.x-index (scope_of c.loop-x.scope) (state_of c.loop-x.work) _ c.loop-x.invariant h

pub returns-in_default : goal.returns-in_default
returns-in_default c =
    let p : c.loop-x.params.now ≡ [] = nil_from_length c.loop-x.params.now c.in_default.ensures.cases in
    params_over (base_view c.args.base) (early_env c.args.making.now.maker.now) (early_env c.args.making.now.made.now) c.args.making.now.at c.args.making.now.line
    c.loop-x.params.now c.args.args.now c.loop-x.x-index (scope_of c.loop-x.scope) (state_of c.loop-x.work) _ c.loop-x.invariant p

pub returns-in_err-scope : goal.returns-in_err-scope
returns-in_err-scope c =
    let h : c.loop-x.x-index < length c.args.args.now = omega (arith, c.loop-x-test.true) in
    stops scope_of c.from_residual.result c.in_err-scope.field-0.0 _ _ c.from_residual.ensures
    (param_failed (base_view c.args.base) (early_env c.args.making.now.maker.now) (early_env c.args.making.now.made.now) c.args.making.now.at c.args.making.now.line
    c.loop-x.params.now c.args.args.now c.loop-x.x-index (scope_of c.loop-x.scope) (state_of c.loop-x.work) _ _ _ c.x-item.result c.in_err-scope.field-0.0
    c.loop-x.invariant c.in-Some.ensures.cases.0 h c.x-item.is c.in_err-scope.ensures)

pub loop-x-preserved : goal.loop-x-preserved
loop-x-preserved c =
    let h : c.loop-x.x-index < length c.args.args.now = omega (arith, c.loop-x-test.true) in
    param_passed (base_view c.args.base) (early_env c.args.making.now.maker.now) (early_env c.args.making.now.made.now) c.args.making.now.at c.args.making.now.line
    c.loop-x.params.now c.args.args.now c.loop-x.x-index (scope_of c.loop-x.scope) (state_of c.loop-x.work) _ _ _ c.x-item.result _ (state_of c.param_given.new.work)
    c.loop-x.invariant c.in-Some.ensures.cases.0 h c.x-item.is c.in_ok-scope.ensures
