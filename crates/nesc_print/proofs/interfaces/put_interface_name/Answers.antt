use Rattle.std.proofs.Common.{◌≡◌, ℕ, List, [], ◌∷◌, ◌++◌, codes, OnOk, subst, ap, ◌∙◌}
use Rattle.nesc_print_words.specs.Lexemes.{Words, word}
use Rattle.nesc_print.proofs.Behind.{behind}
use Rattle.nesc_print.proofs.interfaces.put_interface_name.Goals as goal

pub returns : goal.returns
returns c = subst (λ (ws : Words). OnOk c.word-2.result (c.word-2.new.self ≡ ws))
    (behind _ _ _ _ c.in_ok-word.ensures ∙ ap (λ (n : List ℕ). c.args.words.now ++ word (codes "interface") ∷ word n ∷ []) c.as_bytes.ensures) c.word-2.ensures
