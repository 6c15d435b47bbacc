use Rattle.std.proofs.Common.{◌≡◌, ◌+◌, length, map}
use Rattle.lower_expr.specs.Code.{check_of}
use Rattle.nesc_core.specs.View.{type_of}
use Rattle.expr_emitter.proofs.types.check_of.Given as goal

abbrev pub invariant-loop-rest : goal.invariant-loop-rest
invariant-loop-rest l = record {
  value : l.place + check_of (map type_of l.rest) (type_of l.t) ≡ check_of (map type_of l.fn.checks) (type_of l.t);
  inside : l.place + length l.rest ≡ length l.fn.checks;
}

abbrev pub decreases-loop-rest : goal.decreases-loop-rest
decreases-loop-rest l = length l.rest
