-- A parenthesis that closes behind a keyword.
use Rattle.std.proofs.Common.{◌≡◌, [], ◌∷◌, ◌++◌, append_assoc, ap, ◌∙◌}
use Rattle.std.specs.Prelude.{codes}
use Rattle.printed_words.specs.LaidOut.{Lexeme}
use Rattle.nesc_print_words.specs.Lexemes.{Words, sign, in_parentheses}

pub closed : (before opened all ws : Words) (keyword : Lexeme) → opened ≡ before ++ keyword ∷ sign (codes "(") ∷ [] → all ≡ opened ++ ws
    → all ++ sign (codes ")") ∷ [] ≡ before ++ keyword ∷ in_parentheses ws
closed before opened all ws keyword opening rest =
    ap (λ (z : Words). z ++ sign (codes ")") ∷ []) rest ∙ (ap (λ (z : Words). (z ++ ws) ++ sign (codes ")") ∷ []) opening
    ∙ (append_assoc (before ++ keyword ∷ sign (codes "(") ∷ []) ws (sign (codes ")") ∷ []) ∙ append_assoc before (keyword ∷ sign (codes "(") ∷ []) (ws ++ sign (codes ")") ∷ [])))
