use Rattle.std.proofs.Common.{◌<◌, ◌≤◌, length, arith}
use Rattle.body_meaning.specs.View.{variable_of}
use Rattle.elab_making.proofs.Faults.{stops}
use Rattle.elab_making.specs.View.{whole_of}
use Rattle.elab_walk.proofs.Loops.{variables_go, ended, failed, passed}
use Rattle.elab_walk.proofs.variables.variables.Goals as goal
use Rattle.elab_meaning.specs.View.{based_of}
use Rattle.elab_walk.specs.Parts as parts
use Rattle.program_meaning.specs.Walk as spec

pub returns : goal.returns
returns c = λ t. λ tells.
    let h : length c.args.vars.now ≤ c.loop-v.v-index = omega (arith, c.loop-v-test.false) in
    ended variable_of (parts.variable t (based_of c.args.b.now) c.args.said c.args.norace) (spec.variables t (based_of c.args.b.now) c.args.said c.args.norace) (variables_go t (based_of c.args.b.now) c.args.said c.args.norace) c.args.vars.now c.loop-v.v-index (whole_of c.loop-v.whole) _ (c.loop-v.invariant t tells) h

pub returns-in_err-variable : goal.returns-in_err-variable
returns-in_err-variable c = λ t. λ tells.
    let h : c.loop-v.v-index < length c.args.vars.now = omega (arith, c.loop-v-test.true) in
    stops (λ _. tt) c.from_residual.result c.in_err-variable.field-0.0 _ _ c.from_residual.ensures
    (failed variable_of (parts.variable t (based_of c.args.b.now) c.args.said c.args.norace) (spec.variables t (based_of c.args.b.now) c.args.said c.args.norace) (variables_go t (based_of c.args.b.now) c.args.said c.args.norace) c.args.vars.now c.loop-v.v-index c.v-item.result (whole_of c.loop-v.whole) _ c.in_err-variable.field-0.0
    (c.loop-v.invariant t tells) h c.v-item.is (c.in_err-variable.ensures t tells))

pub loop-v-preserved : goal.loop-v-preserved
loop-v-preserved c = λ t. λ tells.
    let h : c.loop-v.v-index < length c.args.vars.now = omega (arith, c.loop-v-test.true) in
    passed variable_of (parts.variable t (based_of c.args.b.now) c.args.said c.args.norace) (spec.variables t (based_of c.args.b.now) c.args.said c.args.norace) (variables_go t (based_of c.args.b.now) c.args.said c.args.norace) c.args.vars.now c.loop-v.v-index c.v-item.result (whole_of c.loop-v.whole) (whole_of c.variable.new.whole) _
    (c.loop-v.invariant t tells) h c.v-item.is (c.in_ok-variable.ensures t tells)
