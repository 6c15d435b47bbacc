use Rattle.std.proofs.Common.{◌≡◌, ◌++◌, map, length}
use Rattle.std.specs.Vec.Iter.{into_iter_items, into_iter_len}
use Rattle.nesc_core.specs.View.{object_of}
use Rattle.elab_objects.specs.Objects.{objects_by}
use Rattle.elab_objects.specs.View.{variable_of}
use Rattle.elab_objects.proofs.objects.objects_at.Given as goal

abbrev pub invariant-loop-variable : goal.invariant-loop-variable
invariant-loop-variable l = record {
  made : map object_of l.objects.items ++ objects_by (map variable_of (into_iter_items l.variable-iterator)) l.places l.flags
      ≡ objects_by (map variable_of l.fn.variables.items) l.fn.places l.fn.flags;
  left : into_iter_len l.variable-iterator ≡ length (into_iter_items l.variable-iterator);
}
