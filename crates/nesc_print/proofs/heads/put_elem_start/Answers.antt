use Rattle.std.proofs.Common.{◌≡◌, ℕ, List, [], ◌∷◌, ◌++◌, codes, OnOk, subst, ap, ◌∙◌}
use Rattle.nesc_print_words.specs.Lexemes.{Words, word}
use Rattle.nesc_print.proofs.Behind.{behind}
use Rattle.nesc_print.proofs.heads.put_elem_start.Goals as goal

pub returns : goal.returns
returns c = subst (λ (ws : Words). OnOk c.put_interface_name.result (c.put_interface_name.new.words ≡ ws))
    (behind _ _ _ _ c.in_ok-word.ensures ∙ ap (λ (n : List ℕ). c.args.words.now ++ word n ∷ word (codes "interface") ∷ word c.args.elem.now.iface ∷ []) c.specify_word.ensures)
    c.put_interface_name.ensures
