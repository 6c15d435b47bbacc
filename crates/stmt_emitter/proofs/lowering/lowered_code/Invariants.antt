use Rattle.std.proofs.Common.{◌≡◌, map, take}
use Rattle.lower_stmt.specs.Bodies.{mid_fn_of}
use Rattle.nesc_core.specs.View.{body_of, program_of, type_of}
use Rattle.stmt_emitter.proofs.lowering.lowered_code.Given as goal

abbrev pub invariant-loop-body : goal.invariant-loop-body
invariant-loop-body l = l.fns.items ≡ map (mid_fn_of (program_of l.p) (map type_of l.types.items)) (map body_of (take l.body-index l.body-items))
