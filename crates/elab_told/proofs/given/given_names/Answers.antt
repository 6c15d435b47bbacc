use Rattle.std.proofs.Common.{◌<◌, ◌≤◌, length, arith}
use Rattle.elab_exprs.proofs.Faults.{stops}
use Rattle.elab_meaning.specs.View.{state_of}
use Rattle.elab_told.specs.View.{met_of}
use Rattle.elab_told.proofs.Parameters.{ended, failed, passed}
use Rattle.elab_told.proofs.given.given_names.Goals as goal

pub returns : goal.returns
returns c =
    let h : length c.args.given.now ≤ c.loop-one.one-index = omega (arith, c.loop-one-test.false) in
    ended (met_of c.args.met.now) c.args.given.now _ c.loop-one.one-index (state_of c.loop-one.work) c.loop-one.invariant h

pub returns-in_err-given_name : goal.returns-in_err-given_name
returns-in_err-given_name c =
    let h : c.loop-one.one-index < length c.args.given.now = omega (arith, c.loop-one-test.true) in
    stops (λ _. tt) c.from_residual.result c.in_err-given_name.field-0.0 _ _ c.from_residual.ensures
    (failed (met_of c.args.met.now) c.args.given.now _ c.loop-one.one-index c.one-item.result (state_of c.loop-one.work) c.in_err-given_name.field-0.0 c.loop-one.invariant h c.one-item.is c.in_err-given_name.ensures)

pub loop-one-preserved : goal.loop-one-preserved
loop-one-preserved c =
    let h : c.loop-one.one-index < length c.args.given.now = omega (arith, c.loop-one-test.true) in
    passed (met_of c.args.met.now) c.args.given.now _ c.loop-one.one-index c.one-item.result (state_of c.loop-one.work) (state_of c.given_name.new.work) c.loop-one.invariant h c.one-item.is c.in_ok-given_name.ensures
