use Rattle.std.proofs.Common.{◌≡◌, ◌+◌, ◌++◌, length, map}
use Rattle.nesc_core.specs.View.{type_of}
use Rattle.lower_stmt.specs.Bodies.{all_values, params_from}
use Rattle.stmt_emitter.proofs.spots.params_of.Given as goal

abbrev pub invariant-loop-rest : goal.invariant-loop-rest
invariant-loop-rest l = record {
  params : l.params.items ++ params_from (map type_of l.rest) l.v ≡ params_from (map type_of l.fn.types) 0;
  values : l.v + all_values (map type_of l.rest) ≡ all_values (map type_of l.fn.types);
}

abbrev pub decreases-loop-rest : goal.decreases-loop-rest
decreases-loop-rest l = length l.rest
