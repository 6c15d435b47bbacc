use Rattle.std.proofs.Common.{◌≡◌, ◌+◌, ◌-◌, ◌*◌, ◌++◌, map, drop}
use Rattle.std.specs.List.{flat_map, range_with_len}
use Rattle.nesc_core.specs.View.{expr_of, field_of, type_of}
use Rattle.elab_meaning.specs.Places.{copies_in, copies_of_fields, copies_of_struct, element_number}
use Rattle.elab_meaning.specs.View.{frozen_place_of, struct_of}
use Rattle.elab_copies.proofs.Elements.{height, highest_of}
use Rattle.elab_copies.proofs.copying.+copies.Given as goal

abbrev pub decreases-copy_parts : goal.decreases-copy_parts
decreases-copy_parts l = 2 * (l.depth * (highest_of (map struct_of l.structs.now) + 2) + height (type_of l.t.now))

abbrev pub decreases-copy_elements : goal.decreases-copy_elements
decreases-copy_elements l = 2 * (l.depth * (highest_of (map struct_of l.structs.now) + 2) + height (type_of l.part.now)) + 1

abbrev pub decreases-copy_struct : goal.decreases-copy_struct
decreases-copy_struct l = 2 * (l.depth * (highest_of (map struct_of l.structs.now) + 2))

abbrev pub invariant-copy_elements-loop-i : goal.invariant-copy_elements-loop-i
invariant-copy_elements-loop-i l =
    map expr_of l.out.items ≡
    map expr_of l.fn.out.items
    ++ flat_map
    (λ i. copies_in (copies_of_struct (map struct_of l.structs) l.c.at l.c.at_value l.depth) l.c.at l.c.at_value (type_of l.part) (element_number (frozen_place_of l.p) i) (element_number (frozen_place_of l.q) i))
    (range_with_len 0 l.i)

abbrev pub invariant-copy_struct-loop-j : goal.invariant-copy_struct-loop-j
invariant-copy_struct-loop-j l =
    map expr_of l.out.items
    ++ copies_of_fields (copies_of_struct (map struct_of l.structs) l.c.at l.c.at_value (l.depth - 1)) l.c.at l.c.at_value l.j (map field_of (drop l.j l.fields)) (frozen_place_of l.p) (frozen_place_of l.q)
    ≡ map expr_of l.fn.out.items
    ++ copies_of_fields (copies_of_struct (map struct_of l.structs) l.c.at l.c.at_value (l.depth - 1)) l.c.at l.c.at_value 0 (map field_of l.fields) (frozen_place_of l.p) (frozen_place_of l.q)
