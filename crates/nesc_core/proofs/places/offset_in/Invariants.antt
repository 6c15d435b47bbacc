use Rattle.std.proofs.Common.{◌≡◌, map, take}
use Rattle.nesc_core.specs.View.{type_of, structs_of}
use Rattle.nesc_core.specs.Size.{layout_of, fields_layout}
use Rattle.nesc_core.proofs.places.offset_in.Given as goal

abbrev pub invariant-loop-i : goal.invariant-loop-i
invariant-loop-i l = l.before ≡ fields_layout (map (λ f. layout_of (structs_of l.s) (type_of f.ty)) (take l.i l.fields))
