-- Files as the code keeps them (own).
use Rattle.std.specs.Prelude.{ℕ, List, map, Option, Some, None}
use Rattle.nm_base.specs.declared.token.Token.{Token}
use Rattle.nesc_macros.specs.Invocation.{Name}
use Rattle.nesc_tokens.specs.Lexes.{Lexes}

-- the files that were read, in this order: their names and their texts
pub record FilesRead : Type 0 where
  pub names : List Name
  pub texts : List (List ℕ)

abbrev pub files_of : List (Name × List ℕ) → FilesRead
files_of entries = record { names = map (λ e. e.0) entries; texts = map (λ e. e.1) entries }

-- tokens that are kept are those of the text, in the file of this number
abbrev pub AreKept : ℕ → List ℕ → Option (List Token) → Type 0
AreKept file text None = Unit {0}
AreKept file text (Some tokens) = Lexes file text tokens
