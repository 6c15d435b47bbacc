use Rattle.std.proofs.Common.{◌<◌, ◌≤◌, length, arith}
use Rattle.elab_exprs.proofs.Faults.{stops}
use Rattle.elab_meaning.specs.View.{state_of}
use Rattle.wire_elements.specs.View.{early_env}
use Rattle.wire_elements.proofs.Turns.{decl_passed, decl_failed, decls_end}
use Rattle.wire_elements.proofs.headers.all_declared.Goals as goal

pub returns-in_err-header_declared : goal.returns-in_err-header_declared
returns-in_err-header_declared c =
    let h : c.loop-d.d-index < length c.args.decls.now = omega (arith, c.loop-d-test.true) in
    stops (λ _. tt) c.from_residual.result c.in_err-header_declared.field-0.0 _ _ c.from_residual.ensures
    (decl_failed (early_env c.args.early.now) c.args.decls.now c.loop-d.d-index (state_of c.loop-d.work) _ c.d-item.result c.in_err-header_declared.field-0.0
    c.loop-d.invariant h c.d-item.is c.in_err-header_declared.ensures)

pub loop-d-preserved : goal.loop-d-preserved
loop-d-preserved c =
    let h : c.loop-d.d-index < length c.args.decls.now = omega (arith, c.loop-d-test.true) in
    decl_passed (early_env c.args.early.now) c.args.decls.now c.loop-d.d-index (state_of c.loop-d.work) _ c.d-item.result (state_of c.header_declared.new.work)
    c.loop-d.invariant h c.d-item.is c.in_ok-header_declared.ensures

pub returns : goal.returns
returns c =
    let h : length c.args.decls.now ≤ c.loop-d.d-index = omega (arith, c.loop-d-test.false) in
    decls_end (early_env c.args.early.now) c.args.decls.now c.loop-d.d-index (state_of c.loop-d.work) _ c.loop-d.invariant h
