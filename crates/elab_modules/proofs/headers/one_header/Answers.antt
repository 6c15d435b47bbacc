use Rattle.std.proofs.Common.{◌<◌, ◌≤◌, length, arith}
use Rattle.elab_making.proofs.Faults.{stops}
use Rattle.elab_making.specs.View.{whole_of}
use Rattle.elab_modules.proofs.headers.one_header.Goals as goal
use Rattle.elab_modules.proofs.Turns.{declaration_failed, declaration_passed, header_begins, header_ends}

pub loop-d-init : goal.loop-d-init
loop-d-init c = λ t. λ tells. header_begins t c.args.decls.now (whole_of c.args.whole.now) c.new-numbers.result.items c.new-numbers.ensures.items

pub returns : goal.returns
returns c = λ t. λ tells.
    let h : length c.args.decls.now ≤ c.loop-d.d-index = omega (arith, c.loop-d-test.false) in
    header_ends t c.args.decls.now c.loop-d.d-index (whole_of c.loop-d.whole) _ c.loop-d.numbers.items (c.loop-d.invariant t tells) h

pub returns-in_err-more : goal.returns-in_err-more
returns-in_err-more c = λ t. λ tells.
    let h : c.loop-d.d-index < length c.args.decls.now = omega (arith, c.loop-d-test.true) in
    stops (λ v. v.items) c.from_residual.result c.in_err-more.field-0.0 _ _ c.from_residual.ensures
    (declaration_failed t c.args.decls.now c.loop-d.d-index c.d-item.result (whole_of c.loop-d.whole) _ c.loop-d.numbers.items c.in_err-more.field-0.0
    (c.loop-d.invariant t tells) h c.d-item.is (c.in_err-more.ensures t tells))

pub loop-d-preserved : goal.loop-d-preserved
loop-d-preserved c = λ t. λ tells.
    let h : c.loop-d.d-index < length c.args.decls.now = omega (arith, c.loop-d-test.true) in
    declaration_passed t c.args.decls.now c.loop-d.d-index c.d-item.result (whole_of c.loop-d.whole) (whole_of c.header_declared.new.whole) _ c.loop-d.numbers.items c.in_ok-more.more.items c.add_numbers.new.all.items
    (c.loop-d.invariant t tells) h c.d-item.is (c.in_ok-more.ensures t tells) c.in_ok-add_numbers.ensures
