use Rattle.nesc_core.specs.View.{type_of}
use Rattle.race_report.proofs.PartLemmas.{more_here, table_at_end}
use Rattle.race_report.proofs.parts.structs_with.Goals as goal

pub loop-fields-preserved : goal.loop-fields-preserved
loop-fields-preserved c =
    more_here (type_of c.args.wanted.now) c.args.s.now c.requires c.loop-fields.fields-index c.as_slice-fields-items.result.now c.fields-item.result c.as_slice.result.now c.deref.result.now c.loop-fields.inside.items
    c.as_slice-fields-items.ensures c.loop-fields-test.true c.fields-item.is c.as_slice.ensures c.loop-fields.invariant c.deref.ensures.value
    c.any_field-has.result c.push.new.self.items c.any_field-has.ensures c.in_ok-push.ensures.items

pub returns : goal.returns
returns c =
    table_at_end (type_of c.args.wanted.now) c.args.s.now c.requires c.loop-fields.fields-index c.as_slice-fields-items.result.now c.loop-fields.inside.items
    c.as_slice-fields-items.ensures c.loop-fields-test.false c.loop-fields.invariant
