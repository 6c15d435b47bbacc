use Rattle.std.proofs.Common.{◌∙◌}
use Rattle.nesc_core.specs.Layouts.{at}
use Rattle.nesc_core.specs.Size.{layout}
use Rattle.nesc_core.specs.View.{type_of}
use Rattle.kernel_code.proofs.Cut.{over_none, over_same}
use Rattle.kernel_code.proofs.layouts.layout_among.Goals as goal

pub returns-in-None : goal.returns-in-None
returns-in-None c = c.layout_over.ensures ∙ over_none (at c.args.layouts.now) (layout 0 1) (type_of c.args.t.now) c.in-None.ensures

pub returns-in-Some : goal.returns-in-Some
returns-in-Some c = c.layout_over-in-Some.ensures ∙ over_same (at c.args.layouts.now) c.struct_at.result c.in-Some.k (type_of c.args.t.now) c.in-Some.ensures c.struct_at.ensures
