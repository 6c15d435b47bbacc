use Rattle.std.proofs.Common.{◌<◌, ◌≤◌, length, map, arith}
use Rattle.body_meaning.specs.View.{decl_of}
use Rattle.elab_making.proofs.Faults.{stops}
use Rattle.elab_making.specs.View.{whole_of}
use Rattle.elab_modules.proofs.headers.headers_declared.Goals as goal
use Rattle.elab_modules.proofs.Turns.{header_failed, header_passed, headers_begin, headers_end}

pub loop-decls-init : goal.loop-decls-init
loop-decls-init c = λ t. λ tells. headers_begin t (λ h. map decl_of h.now) c.args.headers.now (whole_of c.args.whole.now) c.new-numbers.result.items c.new-numbers.ensures.items

pub returns : goal.returns
returns c = λ t. λ tells.
    let h : length c.args.headers.now ≤ c.loop-decls.decls-index = omega (arith, c.loop-decls-test.false) in
    headers_end t (λ h. map decl_of h.now) c.args.headers.now c.loop-decls.decls-index (whole_of c.loop-decls.whole) _ c.loop-decls.numbers.items (c.loop-decls.invariant t tells) h

pub returns-in_err-more : goal.returns-in_err-more
returns-in_err-more c = λ t. λ tells.
    let h : c.loop-decls.decls-index < length c.args.headers.now = omega (arith, c.loop-decls-test.true) in
    stops (λ v. v.items) c.from_residual.result c.in_err-more.field-0.0 _ _ c.from_residual.ensures
    (header_failed t (λ h. map decl_of h.now) c.args.headers.now c.loop-decls.decls-index c.decls-item.result (whole_of c.loop-decls.whole) _ c.loop-decls.numbers.items c.in_err-more.field-0.0
    (c.loop-decls.invariant t tells) h c.decls-item.is (c.in_err-more.ensures t tells))

pub loop-decls-preserved : goal.loop-decls-preserved
loop-decls-preserved c = λ t. λ tells.
    let h : c.loop-decls.decls-index < length c.args.headers.now = omega (arith, c.loop-decls-test.true) in
    header_passed t (λ h. map decl_of h.now) c.args.headers.now c.loop-decls.decls-index c.decls-item.result (whole_of c.loop-decls.whole) (whole_of c.one_header.new.whole) _ c.loop-decls.numbers.items c.in_ok-more.more.items c.add_numbers.new.all.items
    (c.loop-decls.invariant t tells) h c.decls-item.is (c.in_ok-more.ensures t tells) c.in_ok-add_numbers.ensures
