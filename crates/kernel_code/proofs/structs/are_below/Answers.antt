use Rattle.nesc_core.specs.Plain.{Field}
use Rattle.nesc_core.specs.Size.{NamesBelow}
use Rattle.nesc_core.specs.View.{field_of}
use Rattle.kernel_code.proofs.Each.{none_left, one_less}
use Rattle.kernel_code.proofs.structs.are_below.Goals as goal

pub loop-field-preserved : goal.loop-field-preserved
loop-field-preserved c =
    λ rest. c.loop-field.invariant
    (one_less field_of (λ (f : Field). NamesBelow c.args.number f.ty) c.args.fields.now c.loop-field.field-index c.field-item.result c.loop-field-test.true c.field-item.is
    (c.is_below.ensures c.if-not-is_below.false) rest)

pub returns : goal.returns
returns c = λ is. c.loop-field.invariant (none_left field_of (λ (f : Field). NamesBelow c.args.number f.ty) c.args.fields.now c.loop-field.field-index c.loop-field-test.false)
