use Rattle.std.proofs.Common.{◌<◌, length, map, arith}
use Rattle.nesc_core.specs.View.{stmt_of}
use Rattle.elab_exprs.proofs.Faults.{stops}
use Rattle.elab_meaning.specs.View.{based_of, env_of, state_of}
use Rattle.elab_locals.proofs.Loops.{variable_passed, variable_failed}
use Rattle.elab_locals.proofs.locals.all_variables.Goals as goal

pub returns-in_err-more : goal.returns-in_err-more
returns-in_err-more c =
    let h : c.loop-v.v-index < length c.as_slice-v-items.result.now = omega (arith, c.loop-v-test.true) in
    stops (λ v. map stmt_of v.items) c.from_residual.result c.in_err-more.field-0.0 _ _ c.from_residual.ensures
    (variable_failed (env_of c.args.told.now.env) c.args.told.now.values (based_of c.args.b.now) c.args.said c.as_slice-v-items.result.now c.loop-v.v-index c.v-item.result (state_of c.loop-v.work) _ (map stmt_of c.loop-v.code.items) c.in_err-more.field-0.0
    c.loop-v.invariant h c.v-item.is c.in_err-more.ensures)

pub loop-v-preserved : goal.loop-v-preserved
loop-v-preserved c =
    let h : c.loop-v.v-index < length c.as_slice-v-items.result.now = omega (arith, c.loop-v-test.true) in
    variable_passed (env_of c.args.told.now.env) c.args.told.now.values (based_of c.args.b.now) c.args.said c.as_slice-v-items.result.now c.loop-v.v-index c.v-item.result (state_of c.loop-v.work) (state_of c.variable.new.work) _ (map stmt_of c.loop-v.code.items) (map stmt_of c.in_ok-more.more.items) (map stmt_of c.add_stmts.new.code.items)
    c.loop-v.invariant h c.v-item.is c.in_ok-more.ensures c.in_ok-add_stmts.ensures
