use Rattle.std.proofs.Common.{◌<◌, ◌≤◌, length, arith}
use Rattle.body_meaning.specs.View.{decl_of}
use Rattle.elab_making.proofs.Faults.{stops}
use Rattle.elab_making.specs.View.{whole_of}
use Rattle.elab_walk.proofs.Loops.{declarations_go, ended, failed, passed}
use Rattle.elab_walk.proofs.walk.declarations.Goals as goal
use Rattle.program_meaning.specs.Walk as spec

pub returns : goal.returns
returns c = λ t. λ tells.
    let h : length c.args.decls.now ≤ c.loop-d.d-index = omega (arith, c.loop-d-test.false) in
    ended decl_of (spec.declaration t) (spec.declarations t) (declarations_go t) c.args.decls.now c.loop-d.d-index (whole_of c.loop-d.whole) _ (c.loop-d.invariant t tells) h

pub returns-in_err-declaration : goal.returns-in_err-declaration
returns-in_err-declaration c = λ t. λ tells.
    let h : c.loop-d.d-index < length c.args.decls.now = omega (arith, c.loop-d-test.true) in
    stops (λ _. tt) c.from_residual.result c.in_err-declaration.field-0.0 _ _ c.from_residual.ensures
    (failed decl_of (spec.declaration t) (spec.declarations t) (declarations_go t) c.args.decls.now c.loop-d.d-index c.d-item.result (whole_of c.loop-d.whole) _ c.in_err-declaration.field-0.0
    (c.loop-d.invariant t tells) h c.d-item.is (c.in_err-declaration.ensures t tells))

pub loop-d-preserved : goal.loop-d-preserved
loop-d-preserved c = λ t. λ tells.
    let h : c.loop-d.d-index < length c.args.decls.now = omega (arith, c.loop-d-test.true) in
    passed decl_of (spec.declaration t) (spec.declarations t) (declarations_go t) c.args.decls.now c.loop-d.d-index c.d-item.result (whole_of c.loop-d.whole) (whole_of c.declaration.new.whole) _
    (c.loop-d.invariant t tells) h c.d-item.is (c.in_ok-declaration.ensures t tells)
