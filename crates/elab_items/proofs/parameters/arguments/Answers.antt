use Rattle.std.proofs.Common.{◌≡◌, ◌<◌, ◌≤◌, [], length, map, arith}
use Rattle.std.proofs.lemmas.List.{nil_from_length}
use Rattle.elab_exprs.proofs.Faults.{stops}
use Rattle.elab_meaning.specs.View.{entry_of, env_of, state_of}
use Rattle.elab_items.proofs.Loops.{argument_failed, argument_passed, arguments_end, arguments_short}
use Rattle.elab_items.proofs.parameters.arguments.Goals as goal

pub returns-in_default : goal.returns-in_default
returns-in_default c =
    let p : c.loop-t.params.now ≡ [] = nil_from_length c.loop-t.params.now c.in_default.ensures.cases in
    arguments_short entry_of (env_of c.args.told.now.env) c.args.told.now.values c.args.at _ c.loop-t.entries.items c.args.args.now c.loop-t.params.now c.loop-t.t-index (state_of c.loop-t.work) c.loop-t.invariant p

pub returns-in_err-entry : goal.returns-in_err-entry
returns-in_err-entry c =
    let h : c.loop-t.t-index < length c.args.args.now = omega (arith, c.loop-t-test.true) in
    stops (λ v. map entry_of v.items) c.from_residual.result c.in_err-entry.field-0.0 _ _ c.from_residual.ensures
    (argument_failed entry_of (env_of c.args.told.now.env) c.args.told.now.values c.args.at _ c.loop-t.entries.items c.args.args.now c.loop-t.params.now _ _ c.loop-t.t-index c.t-item.result (state_of c.loop-t.work) c.in_err-entry.field-0.0
    c.loop-t.invariant c.in-Some.ensures.cases.0 h c.t-item.is c.in_err-entry.ensures)

pub loop-t-preserved : goal.loop-t-preserved
loop-t-preserved c =
    let h : c.loop-t.t-index < length c.args.args.now = omega (arith, c.loop-t-test.true) in
    argument_passed entry_of (env_of c.args.told.now.env) c.args.told.now.values c.args.at _ c.loop-t.entries.items c.args.args.now c.loop-t.params.now _ _ c.loop-t.t-index c.t-item.result (state_of c.loop-t.work) (state_of c.argument.new.work) c.in_ok-entry.entry _
    c.loop-t.invariant c.in-Some.ensures.cases.0 h c.t-item.is c.in_ok-entry.ensures c.in_ok-push.ensures.items

pub returns : goal.returns
returns c =
    let h : length c.args.args.now ≤ c.loop-t.t-index = omega (arith, c.loop-t-test.false) in
    arguments_end entry_of (env_of c.args.told.now.env) c.args.told.now.values c.args.at _ c.loop-t.entries.items c.args.args.now c.loop-t.params.now c.loop-t.t-index (state_of c.loop-t.work) c.loop-t.invariant h
