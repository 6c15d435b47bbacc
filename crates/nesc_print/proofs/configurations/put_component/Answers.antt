use Rattle.std.proofs.Common.{◌≡◌, OnOk, subst}
use Rattle.nesc_print_words.specs.Lexemes.{Words}
use Rattle.nesc_print.proofs.Behind.{behind}
use Rattle.nesc_print.proofs.configurations.put_component.Goals as goal

pub returns : goal.returns
returns c = subst (λ (ws : Words). OnOk c.put_component_end.result (c.put_component_end.new.words ≡ ws)) (behind _ _ _ _ c.in_ok-word.ensures) c.put_component_end.ensures
