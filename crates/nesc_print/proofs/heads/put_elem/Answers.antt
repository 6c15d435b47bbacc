use Rattle.std.proofs.Common.{◌≡◌, OnOk, subst}
use Rattle.nesc_print_words.specs.Lexemes.{Words}
use Rattle.nesc_print.proofs.Behind.{behind}
use Rattle.nesc_print.proofs.heads.put_elem.Goals as goal

pub returns : goal.returns
returns c = subst (λ (ws : Words). OnOk c.put_elem_end.result (c.put_elem_end.new.words ≡ ws)) (behind _ _ _ _ c.in_ok-put_elem_start.ensures) c.put_elem_end.ensures
