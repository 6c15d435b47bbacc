use Rattle.std.proofs.Common.{◌≡◌, ◌++◌, map, length}
use Rattle.std.specs.Vec.Iter.{into_iter_items, into_iter_len}
use Rattle.elab_meaning.specs.View.{struct_of}
use Rattle.nesc_core.specs.View.{field_of}
use Rattle.elab_program.proofs.programs.structs_of.Given as goal
use Rattle.program_meaning.specs.Walk.{fields_of}

abbrev pub invariant-loop-x : goal.invariant-loop-x
invariant-loop-x l = record {
  made : map (map field_of) l.structs.items ++ fields_of (map struct_of (into_iter_items l.x-iterator)) ≡ fields_of (map struct_of l.fn.found.items);
  left : into_iter_len l.x-iterator ≡ length (into_iter_items l.x-iterator);
}
