-- What a table gives for the spelling of a token.
use Rattle.std.specs.Prelude.{ℕ, if◌then◌else◌, List, [], ◌∷◌}
use Rattle.nm_base.specs.declared.token.Token.{Token}
use Rattle.nesc_grammar.specs.Grammar.{spelled}

abbrev pub row_of : {A : Type 0} → List (List ℕ × A) → Token → A → A
row_of [] token other = other
row_of (row ∷ rows) token other = if spelled token row.0 then row.1 else row_of rows token other
