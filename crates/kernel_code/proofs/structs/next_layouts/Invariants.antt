use Rattle.std.proofs.Common.{◌≡◌, List, map, take}
use Rattle.nesc_core.specs.Layouts.{made_of}
use Rattle.nesc_core.specs.Plain.{Field}
use Rattle.nesc_core.specs.View.{field_of}
use Rattle.kernel_code.specs.Sizes.{cut}
use Rattle.kernel_code.proofs.structs.next_layouts.Given as goal

abbrev pub invariant-loop-fields : goal.invariant-loop-fields
invariant-loop-fields l =
    l.next.items ≡ map (λ (fields : List Field). cut (made_of l.layouts fields)) (map (map field_of) (take l.fields-index l.fields-items))
