use Rattle.std.proofs.Common.{List}
use Rattle.nesc_core.specs.Layouts.{made_of}
use Rattle.nesc_core.specs.Plain.{Field}
use Rattle.kernel_code.specs.Sizes.{cut}
use Rattle.kernel_code.proofs.Orders.{all_next, next_more}
use Rattle.kernel_code.proofs.structs.next_layouts.Goals as goal

pub loop-fields-preserved : goal.loop-fields-preserved
loop-fields-preserved c =
    next_more (λ (fields : List Field). cut (made_of c.args.layouts.now fields)) c.as_slice-fields-items.result.now c.loop-fields.fields-index c.fields-item.result c.as_slice.result.now
    c.loop-fields.next.items c.push.new.self.items c.made.result c.loop-fields-test.true c.fields-item.is c.as_slice.ensures c.loop-fields.invariant c.made.ensures c.in_ok-push.ensures.items

pub returns : goal.returns
returns c =
    all_next (λ (fields : List Field). cut (made_of c.args.layouts.now fields)) c.args.s.now c.as_slice-fields-items.result.now c.loop-fields.fields-index c.loop-fields.next.items
    c.as_slice-fields-items.ensures c.loop-fields-test.false c.loop-fields.invariant
