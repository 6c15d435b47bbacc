use Rattle.std.proofs.Common.{◌+◌, ◌≤◌, length, sym, subst}
use Rattle.nesc_core.specs.declared.layout.Layout.{Layout}
use Rattle.nesc_core.specs.Layouts.{at}
use Rattle.nesc_core.specs.Size.{IsSmall, NamesBelow, rounded}
use Rattle.nesc_core.proofs.LayoutLemmas.{field_has, field_small}
use Rattle.nesc_core.proofs.layouts_made.made.Goals as goal

pub layout_among-requires-clause-names : goal.layout_among-requires-clause-names
layout_among-requires-clause-names c =
    field_has c.args.layouts.now c.args.fields.now (λ f. NamesBelow (length c.args.layouts.now) f.ty) c.requires.names c.loop-field.field-index c.field-item.result c.loop-field-test.true c.field-item.is

pub layout_among-requires-clause-small : goal.layout_among-requires-clause-small
layout_among-requires-clause-small c =
    field_has c.args.layouts.now c.args.fields.now (λ f. IsSmall (at c.args.layouts.now) f.ty) c.requires.small c.loop-field.field-index c.field-item.result c.loop-field-test.true c.field-item.is

pub with_field-done-requires : goal.with_field-done-requires
with_field-done-requires c =
    subst (λ (l : Layout). rounded c.loop-field.done.size l.align + l.size ≤ 32767) (sym c.layout_among.ensures)
    (field_small c.args.layouts.now c.args.fields.now c.requires.small_whole c.loop-field.field-index c.field-item.result c.loop-field.done c.loop-field-test.true c.field-item.is c.loop-field.invariant)
