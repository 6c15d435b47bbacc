use Rattle.std.proofs.Common.{◌+◌, drop, map, ap, ◌∙◌, sym}
use Rattle.nesc_core.specs.Derefs.{stmts_derefs}
use Rattle.nesc_core.specs.View.{stmts_of, type_of}
use Rattle.lower_stmt.specs.Bodies.{in_order}
use Rattle.stmt_emitter.proofs.Orders.{stmts_less, stmts_step}
use Rattle.stmt_emitter.proofs.checks.+stmt_derefs.Goals as goal

pub add_stmts-loop-s-preserved : goal.add_stmts-loop-s-preserved
add_stmts-loop-s-preserved t c =
    let items = c.as_slice-s-items.result.now in
    let i = c.loop-s.s-index in
    record {
      seen = ap (λ seen. in_order seen (stmts_derefs (stmts_of (drop (i + 1) items)))) c.in_ok-add_stmt.ensures
          ∙ sym (stmts_step (map type_of c.loop-s.seen.items) items i c.s-item.result c.loop-s-test.true c.s-item.is) ∙ c.loop-s.invariant.seen;
      smaller = stmts_less items (i + 1);
    }
