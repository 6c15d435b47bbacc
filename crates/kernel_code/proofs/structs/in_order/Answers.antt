use Rattle.std.proofs.Common.{◌∙◌, ◌∷◌, [], ap, arith, length, length-append, map}
use Rattle.nesc_core.specs.Layouts.{made_of}
use Rattle.nesc_core.specs.View.{field_of, structs_of}
use Rattle.kernel_code.specs.Sizes.{cut}
use Rattle.kernel_code.proofs.Orders.{all_inside, all_known, fields_here, inside_is, known_more}
use Rattle.kernel_code.proofs.structs.in_order.Goals as goal

pub loop-fields-preserved : goal.loop-fields-preserved
loop-fields-preserved c =
    let h = c.loop-fields.invariant in
    let s = c.args.s.now in let i = c.loop-fields.fields-index in
    let xs = c.as_slice-fields-items.result.now in let item = c.fields-item.result in let fields = c.as_slice.result.now in
    let same = c.as_slice-fields-items.ensures in let lt = c.loop-fields-test.true in let is = c.fields-item.is in let own = c.as_slice.ensures in
    let old = c.loop-fields.layouts.items in
    let long = h.long in
    record {
      long = omega (arith, long, ap length c.in_ok-push.ensures.items, length-append old (c.made.result ∷ []));
      known = known_more (structs_of s) c.requires i (inside_is s i xs item fields same lt is own) old h.known c.push.new.self.items c.made.result (map field_of fields)
          long c.in_ok-push.ensures.items (c.made.ensures ∙ ap (λ ls. cut (made_of ls (map field_of fields))) c.deref.ensures.value) (fields_here s i xs item fields same lt is own);
    }

pub returns : goal.returns
returns c =
    let h = c.loop-fields.invariant in
    let s = c.args.s.now in
    all_known (structs_of s) c.requires c.loop-fields.fields-index c.loop-fields.layouts.items
    (all_inside s c.loop-fields.fields-index c.as_slice-fields-items.result.now c.as_slice-fields-items.ensures c.loop-fields-test.false) h.long h.known
