-- What reading a phrase of statements gives, with at most so many levels.
use Rattle.std.specs.Prelude.{ℕ, List}
use Rattle.nm_base.specs.declared.token.Token.{Token}
use Rattle.nesc_tree.specs.declared.contexts.Jumps.{Jumps}
use Rattle.nesc_tree.specs.declared.declarations.Stmt.{Stmt}
use Rattle.nesc_tree.specs.Sorts.{Names}
use Rattle.nesc_tree.specs.Phrase.{Phrase}
use Rattle.nesc_tree.specs.Reading.{Answer, phrase}
use Rattle.nesc_grammar.specs.Production.{production}
use Rattle.nesc_parse_types.specs.Gives.{place}

abbrev pub stmt_in : ℕ → Jumps → Names → List Token → Answer Stmt
stmt_in levels j names ts = phrase production levels (Phrase.stmt j) (place names ts)

abbrev pub label_in : ℕ → Jumps → Names → List Token → Answer Stmt
label_in levels j names ts = phrase production levels (Phrase.label j) (place names ts)

-- the block that is the body of a `switch`
abbrev pub cases_in : ℕ → Jumps → Names → List Token → Answer Stmt
cases_in levels j names ts = phrase production levels (Phrase.cases j) (place names ts)
