use Rattle.std.proofs.Common.{◌<◌, ◌≤◌, length, arith}
use Rattle.elab_exprs.proofs.Faults.{stops}
use Rattle.elab_meaning.specs.View.{state_of}
use Rattle.wire_scopes.specs.Keys.{types_in}
use Rattle.wire_elements.specs.View.{early_env}
use Rattle.wire_elements.proofs.Turns.{arg_passed, arg_failed, args_end}
use Rattle.wire_elements.proofs.elements.args_told.Goals as goal

pub returns-in_err-number : goal.returns-in_err-number
returns-in_err-number c =
    let h : c.loop-t.t-index < length c.args.args.now = omega (arith, c.loop-t-test.true) in
    stops (λ v. (v.items, types_in c.arg_told.new.types)) c.from_residual.result c.in_err-number.field-0.0 _ _ c.from_residual.ensures
    (arg_failed (early_env c.args.early.now) c.args.at (types_in c.loop-t.types) c.loop-t.numbers.items c.args.args.now c.loop-t.t-index (state_of c.loop-t.work) _ c.t-item.result c.in_err-number.field-0.0
    c.loop-t.invariant h c.t-item.is c.in_err-number.ensures)

pub loop-t-preserved : goal.loop-t-preserved
loop-t-preserved c =
    let h : c.loop-t.t-index < length c.args.args.now = omega (arith, c.loop-t-test.true) in
    arg_passed (early_env c.args.early.now) c.args.at (types_in c.loop-t.types) c.loop-t.numbers.items c.args.args.now c.loop-t.t-index (state_of c.loop-t.work) _ c.t-item.result
    c.in_ok-number.number (types_in c.arg_told.new.types) _ (state_of c.arg_told.new.work)
    c.loop-t.invariant h c.t-item.is c.in_ok-number.ensures c.in_ok-push.ensures.items

pub returns : goal.returns
returns c =
    let h : length c.args.args.now ≤ c.loop-t.t-index = omega (arith, c.loop-t-test.false) in
    args_end (early_env c.args.early.now) c.args.at (types_in c.loop-t.types) c.loop-t.numbers.items c.args.args.now c.loop-t.t-index (state_of c.loop-t.work) _ c.loop-t.invariant h
