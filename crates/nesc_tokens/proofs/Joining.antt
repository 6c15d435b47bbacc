-- No byte is joined to a word where no line splice stands.
use Rattle.std.proofs.Common.{◌≡◌, ◌∙◌, ℕ, ◌+◌, Bool, true, false, not, ◌&&◌, cond, List, [], ◌∷◌, refl, ap}
use Rattle.std.specs.Prelude.{nat_eq, ◌==◌}
use Rattle.std.proofs.lemmas.Bool.{eq-eqb, eqb-true}
use Rattle.nesc_tokens.specs.declared.splice.SourceByte.{SourceByte}
use Rattle.nesc_tokens.specs.CodePoints.{is_word_byte, line_feed}
use Rattle.nesc_tokens.specs.Splices.{col_behind, line_behind, placed}
use Rattle.nesc_tokens.specs.Joined.{joined_of, joins}

and_false : (a b : Bool) → b ≡ false → (a && b) ≡ false
and_false true b e = e
and_false false b e = refl

abbrev by_join : SourceByte → List SourceByte → Bool → List SourceByte
by_join b rest joined = elim joined [ true ↦ b ∷ joined_of true (b ∷ rest) | false ↦ joined_of false (b ∷ rest) ]

not_joined : (a b : SourceByte) (rest : List SourceByte) → joins false a b ≡ false → joined_of false (a ∷ b ∷ rest) ≡ joined_of false (b ∷ rest)
not_joined a b rest e = ap (by_join b rest) e

one_line : (byte line : ℕ) (test : Bool) → (byte == line_feed) ≡ test → (is_word_byte byte && not (nat_eq line (cond test (line + 1) line))) ≡ false
one_line byte line true e = ap (λ (b : ℕ). is_word_byte b && not (nat_eq line (line + 1))) (eqb-true byte line_feed e)
one_line byte line false e = and_false (is_word_byte byte) _ (ap not (eq-eqb line line refl))

none_at : (byte line col : ℕ) (bytes : List ℕ) → joined_of false (placed (line_behind byte line) (col_behind byte col) bytes) ≡ [] → joined_of false (placed line col (byte ∷ bytes)) ≡ []
none_at byte line col [] none = refl
none_at byte line col (b ∷ bytes) none =
    not_joined (record { byte = byte; line = line; col = col }) (record { byte = b; line = line_behind byte line; col = col_behind byte col }) (placed (line_behind b (line_behind byte line)) (col_behind b (col_behind byte col)) bytes) (one_line byte line (byte == line_feed) refl) ∙ none

pub none_joined : (line col : ℕ) (bytes : List ℕ) → joined_of false (placed line col bytes) ≡ []
none_joined line col [] = refl
none_joined line col (byte ∷ bytes) = none_at byte line col bytes (none_joined (line_behind byte line) (col_behind byte col) bytes)
