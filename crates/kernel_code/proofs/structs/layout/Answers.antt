use Rattle.std.proofs.Common.{◌∙◌}
use Rattle.nesc_core.specs.View.{structs_of, type_of}
use Rattle.kernel_code.proofs.Fields.{whole_type}
use Rattle.kernel_code.proofs.structs.layout.Goals as goal

pub returns : goal.returns
returns c =
    c.layout_among.ensures
    ∙ whole_type (structs_of c.args.s.now) c.deref.result.now c.in_ok-layouts.layouts.items c.deref.ensures.value c.in_ok-layouts.ensures (type_of c.args.t.now)
