-- One function more is formed.
use Rattle.std.proofs.Common.{length}
use Rattle.msp_isa.specs.Stands.{items_of}
use Rattle.msp_layout.specs.Words.{IsFormed}
use Rattle.msp_layout.proofs.Functions.{all_written, items_read, form_more}
use Rattle.msp_layout.proofs.image.form_all.Goals as goal

pub form-requires-clause-written : goal.form-requires-clause-written
form-requires-clause-written c =
    let e = items_read c.args.code.now c.loop-function.function-index c.function-item.result c.loop-function-test.true c.function-item.is in
    rw (c.as_slice.ensures, ← e) (all_written (length c.args.code.now) _ (c.requires c.loop-function.function-index c.loop-function-test.true).each)

pub loop-function-preserved : goal.loop-function-preserved
loop-function-preserved c =
    let e = items_read c.args.code.now c.loop-function.function-index c.function-item.result c.loop-function-test.true c.function-item.is in
    let s = c.in_ok-form.ensures in
    let is : IsFormed (items_of c.args.code.now c.loop-function.function-index) c.in_ok-form.field-0 = rw (e, ← c.as_slice.ensures) (record { shortest = s.sizes; targets = s.targets; places = s.places }) in
    rw c.in_ok-push.ensures.items (form_more c.args.code.now c.loop-function.forms.items c.in_ok-form.field-0 c.loop-function.function-index c.loop-function.invariant is)
