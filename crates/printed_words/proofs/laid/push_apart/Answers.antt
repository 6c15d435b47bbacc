use Rattle.std.proofs.Common.{refl, ap, ◌∙◌, ◌++◌, List, ℕ}
use Rattle.printed_words.specs.LaidOut.{word}
use Rattle.printed_words.proofs.laid.push_apart.Goals as goal

pub returns : goal.returns
returns c = λ words laid. word c.args.word.now c.requires (c.in_ok-extend_from_slice.ensures.items ∙ ap (λ (t : List ℕ). c.args.text.now.items ++ t) c.text.ensures) refl laid
