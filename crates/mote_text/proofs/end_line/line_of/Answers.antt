use Rattle.std.proofs.Common.{◌≡◌, ℕ, List, [], ◌++◌, codes, decimal, ap, ◌∙◌, append_assoc}
use Rattle.mote_text.specs.Hex.{hex_word}
use Rattle.nm_base.specs.Lists.{number_of}
use Rattle.mote_text.proofs.end_line.line_of.Goals as goal

joined : (l0 l1 l2 l3 l4 a b c d : List ℕ) → l0 ≡ [] → l1 ≡ l0 ++ a → l2 ≡ l1 ++ b → l3 ≡ l2 ++ c → l4 ≡ l3 ++ d → l4 ≡ a ++ (b ++ (c ++ d))
joined l0 l1 l2 l3 l4 a b c d e0 e1 e2 e3 e4 =
    let one = e1 ∙ ap (λ l. l ++ a) e0 in
    let two = e2 ∙ ap (λ l. l ++ b) one in
    let three = e3 ∙ ap (λ l. l ++ c) two in
    e4 ∙ ap (λ l. l ++ d) three ∙ regrouped
  where
    regrouped : ((a ++ b) ++ c) ++ d ≡ a ++ (b ++ (c ++ d))
    regrouped = simp append_assoc

pub returns : goal.returns
returns c =
    let end = c.args.end.now in
    joined c.new-line.result.items _ _ _ _ (codes "end slots " ++ decimal end.slots) (codes " ran " ++ decimal end.ran) (codes " sp " ++ hex_word end.least) (codes " off " ++ decimal (number_of end.off))
    c.new-line.ensures c.push_field.ensures.text c.push_field-2.ensures.text c.push_word_field.ensures.text
    (c.push_field-3.ensures.text ∙ ap (λ n. c.push_word_field.new.line.items ++ (codes " off " ++ decimal n)) c.digit_of.ensures)
