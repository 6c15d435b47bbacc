use Rattle.std.proofs.Common.{◌≡◌, ◌+◌, ◌*◌, ◌<◌, ◌++◌, ◌^◌, drop}
use Rattle.nesc_core.specs.View.{exprs_of}
use Rattle.nesc_core.specs.Weights.{greatest_levels}
use Rattle.lower_expr.specs.Code.{all_labels}
use Rattle.expr_emitter.specs.Scoped.{locals_in, program_in}
use Rattle.expr_emitter.specs.Sizes.{AllHaveSizes}
use Rattle.stmt_emitter.specs.Located.{enter_in}
use Rattle.stmt_emitter.proofs.locals.emit_enter.Given as goal

abbrev pub invariant-loop-arg : goal.invariant-loop-arg
invariant-loop-arg l = record {
  code : l.code.items ++ enter_in l.scope l.base (exprs_of (drop l.arg-index l.arg-items)) l.at l.next ≡ l.fn.code.items ++ enter_in l.scope l.base (exprs_of l.arg-items) l.x l.fn.next;
  next : l.next + all_labels (exprs_of (drop l.arg-index l.arg-items)) ≡ l.fn.next + all_labels (exprs_of l.arg-items);
  sizes : AllHaveSizes (program_in l.scope) (locals_in l.scope) (exprs_of (drop l.arg-index l.arg-items));
  at : l.at ≡ l.x + l.arg-index;
  labels : l.next + all_labels (exprs_of (drop l.arg-index l.arg-items)) < 2 ^ 32;
  values : l.base + (2 * greatest_levels (exprs_of (drop l.arg-index l.arg-items)) + 8) < 2 ^ 32;
}
