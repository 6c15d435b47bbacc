use Rattle.std.proofs.Common.{◌+◌, drop, map, ap, ◌∙◌, sym}
use Rattle.nesc_core.specs.Derefs.{exprs_derefs}
use Rattle.nesc_core.specs.View.{exprs_of, type_of}
use Rattle.lower_stmt.specs.Bodies.{in_order}
use Rattle.stmt_emitter.proofs.Orders.{args_less, args_step}
use Rattle.stmt_emitter.proofs.checks.+derefs.Goals as goal

pub add_args-loop-arg-preserved : goal.add_args-loop-arg-preserved
add_args-loop-arg-preserved t c =
    let items = c.as_slice-arg-items.result.now in
    let i = c.loop-arg.arg-index in
    record {
      seen = ap (λ seen. in_order seen (exprs_derefs (exprs_of (drop (i + 1) items)))) c.in_ok-add_expr.ensures
          ∙ sym (args_step (map type_of c.loop-arg.seen.items) items i c.arg-item.result c.loop-arg-test.true c.arg-item.is) ∙ c.loop-arg.invariant.seen;
      smaller = args_less items (i + 1);
    }
