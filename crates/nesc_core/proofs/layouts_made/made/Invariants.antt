use Rattle.std.proofs.Common.{◌≡◌, map, take}
use Rattle.nesc_core.specs.Layouts.{at}
use Rattle.nesc_core.specs.Size.{fields_layout, type_layout}
use Rattle.nesc_core.specs.View.{type_of}
use Rattle.nesc_core.proofs.layouts_made.made.Given as goal

abbrev pub invariant-loop-field : goal.invariant-loop-field
invariant-loop-field l = l.done ≡ fields_layout (map (λ f. type_layout (at l.layouts) (type_of f.ty)) (take l.field-index l.fields))
