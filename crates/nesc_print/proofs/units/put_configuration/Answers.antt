use Rattle.std.proofs.Common.{◌≡◌, OnOk, subst}
use Rattle.nesc_print_words.specs.Lexemes.{Words}
use Rattle.nesc_print.proofs.Behind.{behind}
use Rattle.nesc_print.proofs.units.put_configuration.Goals as goal

pub returns : goal.returns
returns c = subst (λ (ws : Words). OnOk c.put_configuration_body.result (c.put_configuration_body.new.words ≡ ws)) (behind _ _ _ _ c.in_ok-put_component_head.ensures) c.put_configuration_body.ensures
