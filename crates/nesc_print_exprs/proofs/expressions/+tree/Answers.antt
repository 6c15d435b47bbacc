use Rattle.std.proofs.Common.{◌≡◌, OnOk, subst}
use Rattle.nesc_print_words.specs.Lexemes.{Words}
use Rattle.nesc_print_exprs.proofs.Closing.{closed}
use Rattle.nesc_print_exprs.proofs.expressions.+tree.Goals as goal

pub put_port_read-returns : goal.put_port_read-returns
put_port_read-returns t c =
    subst (λ (ws : Words). OnOk c.sign.result (c.sign.new.self ≡ ws)) (closed _ _ _ _ _ c.in_ok-open_call.ensures c.in_ok-put_expr.ensures) c.sign.ensures
