use Rattle.std.proofs.Common.{◌≡◌, OnOk, subst}
use Rattle.nesc_print_words.specs.Lexemes.{Words}
use Rattle.nesc_print.proofs.Behind.{behind}
use Rattle.nesc_print.proofs.interfaces.put_interface_start.Goals as goal

pub returns : goal.returns
returns c = subst (λ (ws : Words). OnOk c.put_type_parameters.result (c.put_type_parameters.new.words ≡ ws)) (behind _ _ _ _ c.in_ok-put_interface_name.ensures) c.put_type_parameters.ensures
