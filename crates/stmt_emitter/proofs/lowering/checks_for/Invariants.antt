use Rattle.std.proofs.Common.{◌≡◌, map, take}
use Rattle.lower_expr.specs.Code.{check_for}
use Rattle.nesc_core.specs.View.{program_of, type_of}
use Rattle.stmt_emitter.proofs.lowering.checks_for.Given as goal

abbrev pub invariant-loop-t : goal.invariant-loop-t
invariant-loop-t l = l.checks.items ≡ map (check_for (program_of l.p)) (map type_of (take l.t-index l.types))
