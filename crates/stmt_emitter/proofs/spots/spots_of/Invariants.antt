use Rattle.std.proofs.Common.{◌≡◌, ◌+◌, ◌++◌, length, map}
use Rattle.nesc_core.specs.View.{program_of, type_of}
use Rattle.lower_stmt.specs.Bodies.{all_bytes, all_values, spots_from}
use Rattle.stmt_emitter.specs.Starts.{AreAllSized}
use Rattle.stmt_emitter.proofs.spots.spots_of.Given as goal

abbrev pub invariant-loop-t : goal.invariant-loop-t
invariant-loop-t l = record {
  spots : l.spots.items ++ spots_from (program_of l.p) (map type_of l.rest) l.values l.bytes ≡ spots_from (program_of l.p) (map type_of l.fn.locals) 0 0;
  values : l.values + all_values (map type_of l.rest) ≡ all_values (map type_of l.fn.locals);
  bytes : l.bytes + all_bytes (program_of l.p) (map type_of l.rest) ≡ all_bytes (program_of l.p) (map type_of l.fn.locals);
  types : AreAllSized (program_of l.p).structs (map type_of l.rest);
}

abbrev pub decreases-loop-t : goal.decreases-loop-t
decreases-loop-t l = length l.rest
