use Rattle.std.proofs.Common.{◌≡◌, OnOk, subst}
use Rattle.nesc_print_words.specs.Lexemes.{Words}
use Rattle.nesc_print.proofs.Behind.{behind}
use Rattle.nesc_print.proofs.units.put_module_body.Goals as goal

pub returns : goal.returns
returns c = subst (λ (ws : Words). OnOk c.put_decl_block.result (c.put_decl_block.new.words ≡ ws)) (behind _ _ _ _ c.in_ok-word.ensures) c.put_decl_block.ensures
