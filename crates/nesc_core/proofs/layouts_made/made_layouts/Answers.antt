use Rattle.nesc_core.proofs.LayoutLemmas.{more_here, names_here, small_here, whole_here}
use Rattle.nesc_core.proofs.layouts_made.made_layouts.Goals as goal

pub made-requires-clause-names : goal.made-requires-clause-names
made-requires-clause-names c =
    names_here c.args.s.now c.requires c.loop-fields.fields-index c.as_slice-fields-items.result.now c.fields-item.result c.as_slice.result.now c.deref.result.now c.loop-fields.layouts.items c.as_slice-fields-items.ensures c.loop-fields-test.true c.fields-item.is c.as_slice.ensures c.loop-fields.invariant c.deref.ensures.value

pub made-requires-clause-small : goal.made-requires-clause-small
made-requires-clause-small c =
    small_here c.args.s.now c.requires c.loop-fields.fields-index c.as_slice-fields-items.result.now c.fields-item.result c.as_slice.result.now c.deref.result.now c.loop-fields.layouts.items c.as_slice-fields-items.ensures c.loop-fields-test.true c.fields-item.is c.as_slice.ensures c.loop-fields.invariant c.deref.ensures.value

pub made-requires-clause-small_whole : goal.made-requires-clause-small_whole
made-requires-clause-small_whole c =
    whole_here c.args.s.now c.requires c.loop-fields.fields-index c.as_slice-fields-items.result.now c.fields-item.result c.as_slice.result.now c.deref.result.now c.loop-fields.layouts.items c.as_slice-fields-items.ensures c.loop-fields-test.true c.fields-item.is c.as_slice.ensures c.loop-fields.invariant c.deref.ensures.value

pub loop-fields-preserved : goal.loop-fields-preserved
loop-fields-preserved c =
    more_here c.args.s.now c.requires c.loop-fields.fields-index c.as_slice-fields-items.result.now c.fields-item.result c.as_slice.result.now c.deref.result.now c.loop-fields.layouts.items c.as_slice-fields-items.ensures c.loop-fields-test.true c.fields-item.is c.as_slice.ensures c.loop-fields.invariant c.deref.ensures.value
    c.made.result c.push.new.self.items c.made.ensures c.in_ok-push.ensures.items
