use Rattle.std.proofs.Common.{◌≡◌, ◌≤◌, ◌+◌, List, drop, map, sum_by}
use Rattle.nesc_core.specs.Plain.{Field}
use Rattle.nesc_core.specs.View.{type_of}
use Rattle.elab_weights.specs.Bounded.{bounded}
use Rattle.elab_weights.specs.Tables.{AreFirst, bytes_of}
use Rattle.elab_weights.proofs.frames.local_bytes.Given as goal

abbrev pub invariant-loop-t : goal.invariant-loop-t
invariant-loop-t l = record {
  sum : (structs : List (List Field)) → AreFirst structs l.fn.layouts
      → bounded (l.sum + sum_by (bytes_of structs) (map type_of (drop l.t-index l.locals))) ≡ bounded (sum_by (bytes_of structs) (map type_of l.locals));
  room : l.sum ≤ 1000000;
}
