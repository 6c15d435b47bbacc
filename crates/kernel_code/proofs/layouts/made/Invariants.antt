use Rattle.std.proofs.Common.{◌≡◌, map, take}
use Rattle.nesc_core.specs.declared.tree.Field as tree
use Rattle.nesc_core.specs.Layouts.{at}
use Rattle.nesc_core.specs.Size.{fields_layout, type_layout}
use Rattle.nesc_core.specs.View.{type_of}
use Rattle.kernel_code.specs.Sizes.{cut}
use Rattle.kernel_code.proofs.layouts.made.Given as goal

abbrev pub invariant-loop-field : goal.invariant-loop-field
invariant-loop-field l = l.done ≡ cut (fields_layout (map (λ (f : tree.Field). type_layout (at l.fn.layouts) (type_of f.ty)) (take l.field-index l.fields)))
