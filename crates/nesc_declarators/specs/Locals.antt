-- Declarations in blocks, with at most so many levels.
use Rattle.std.specs.Prelude.{ℕ, List}
use Rattle.nm_base.specs.declared.token.Token.{Token}
use Rattle.nesc_tree.specs.declared.declarations.Stmt.{Stmt}
use Rattle.nesc_tree.specs.Sorts.{Names}
use Rattle.nesc_tree.specs.Phrase.{Phrase}
use Rattle.nesc_tree.specs.Reading.{Answer, phrase}
use Rattle.nesc_grammar.specs.Production.{production}
use Rattle.nesc_parse_types.specs.Gives.{place}

abbrev pub local_in : ℕ → Names → List Token → Answer Stmt
local_in levels names ts = phrase production levels Phrase.local (place names ts)
