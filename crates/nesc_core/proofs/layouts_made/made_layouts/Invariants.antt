use Rattle.std.proofs.Common.{◌≡◌}
use Rattle.nesc_core.specs.Layouts.{first_layouts}
use Rattle.nesc_core.specs.View.{structs_of}
use Rattle.nesc_core.proofs.layouts_made.made_layouts.Given as goal

abbrev pub invariant-loop-fields : goal.invariant-loop-fields
invariant-loop-fields l = l.layouts.items ≡ first_layouts (structs_of l.s) l.fields-index
