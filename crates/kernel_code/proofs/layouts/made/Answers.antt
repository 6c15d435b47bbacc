use Rattle.std.proofs.Common.{◌∙◌}
use Rattle.nesc_core.specs.declared.tree.Field as tree
use Rattle.nesc_core.specs.Layouts.{at}
use Rattle.nesc_core.specs.Size.{type_layout}
use Rattle.nesc_core.specs.View.{type_of}
use Rattle.kernel_code.proofs.Fields.{all_done, one_more, plain_fields}
use Rattle.kernel_code.proofs.layouts.made.Goals as goal

pub loop-field-preserved : goal.loop-field-preserved
loop-field-preserved c =
    c.with_field-done.ensures
    ∙ one_more (λ (f : tree.Field). type_layout (at c.args.layouts.now) (type_of f.ty)) c.args.fields.now c.loop-field.field-index c.field-item.result c.loop-field.done c.layout_among.result
    c.loop-field-test.true c.field-item.is c.loop-field.invariant c.layout_among.ensures

pub returns : goal.returns
returns c =
    c.struct_of_fields.ensures
    ∙ all_done (λ (f : tree.Field). type_layout (at c.args.layouts.now) (type_of f.ty)) c.args.fields.now c.loop-field.field-index c.loop-field.done c.loop-field-test.false c.loop-field.invariant
    ∙ plain_fields (at c.args.layouts.now) c.args.fields.now
