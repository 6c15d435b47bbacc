-- What is proved of printing statements.
use Rattle.std.specs.Prelude.{◌≡◌, ℕ, false, List, map}
use Rattle.nm_base.specs.declared.token.Token.{Token}
use Rattle.nesc_tree.specs.declared.contexts.Jumps.{Jumps}
use Rattle.nesc_tree.specs.declared.declarations.Stmt.{Stmt}
use Rattle.nesc_tree.specs.Choices.{is_else}
use Rattle.nesc_tree.specs.Form.{Place, SpellsIn}
use Rattle.nesc_tree.specs.Phrase.{Phrase}
use Rattle.nesc_tree.specs.Sorts.{ahead}
use Rattle.nesc_grammar.specs.Production.{production}
use Rattle.printed_words.specs.LaidOut.{lexeme_of}
use Rattle.nesc_print_words.specs.Statements.{stmt_words}
use Rattle.nesc_print_laws.specs.ReadAgain.{ReadAgain}
use Rattle.nesc_print_laws.specs.Shapes.{stmt_shape}

-- the words of a statement, before a token that is no `else`; the names that it declares end with it
abbrev pub StatementsAreReadAgain : Type 0
StatementsAreReadAgain = (levels : ℕ) (j : Jumps) (p q : Place) (x : Stmt) → SpellsIn production levels (Phrase.stmt j) p x q
    → (ts rest : List Token) → map lexeme_of ts ≡ stmt_words x → is_else (ahead p.names rest) ≡ false
    → ReadAgain (Phrase.stmt j) p.names ts rest (λ y. stmt_shape y ≡ stmt_shape x)
