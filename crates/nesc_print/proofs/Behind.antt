-- Words behind words that are there.
use Rattle.std.proofs.Common.{◌≡◌, ◌++◌, append_assoc, ap, ◌∙◌}
use Rattle.nesc_print_words.specs.Lexemes.{Words}

pub behind : (before mid a b : Words) → mid ≡ before ++ a → mid ++ b ≡ before ++ (a ++ b)
behind before mid a b e = ap (λ (z : Words). z ++ b) e ∙ append_assoc before a b
