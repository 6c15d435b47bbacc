-- What is proved of the words of trees: each is a lexeme by itself, where each token that was read is one.
use Rattle.std.specs.Prelude.{◌≡◌, ℕ, true, List, map}
use Rattle.std.specs.List.{list_all}
use Rattle.nm_base.specs.declared.token.Token.{Token}
use Rattle.nesc_tokens.specs.Lexes.{Lexes}
use Rattle.nesc_tree.specs.declared.contexts.Site.{Site}
use Rattle.nesc_tree.specs.declared.declarations.Decl.{Decl}
use Rattle.nesc_tree.specs.declared.components.Unit as unit
use Rattle.nesc_tree.specs.Form.{Place, Spells, SpellsIn}
use Rattle.nesc_tree.specs.Phrase.{Phrase}
use Rattle.nesc_grammar.specs.Declarations.{decls_before}
use Rattle.nesc_grammar.specs.Production.{production}
use Rattle.printed_words.specs.LaidOut.{is_whole, lexeme_of}
use Rattle.nesc_print_words.specs.Lexemes.{Words}
use Rattle.nesc_print_words.specs.Statements.{decls_words}
use Rattle.nesc_print_words.specs.Components.{unit_words}

abbrev pub AreWhole : Words → Type 0
AreWhole ws = list_all is_whole ws ≡ true

-- lexemes by themselves, as all that lexing gives
abbrev pub TokensAreWhole : List Token → Type 0
TokensAreWhole ts = AreWhole (map lexeme_of ts)

pub record PrintedWordsAreWhole : Type 0 where
  pub interfaces : (levels : ℕ) (p q : Place) (u : unit.Unit) → SpellsIn production levels Phrase.interface p u q → TokensAreWhole p.rest → AreWhole (unit_words u)
  pub components : (levels : ℕ) (p q : Place) (u : unit.Unit) → SpellsIn production levels Phrase.component p u q → TokensAreWhole p.rest → AreWhole (unit_words u)
  pub lists : (levels : ℕ) (m : Site) (p q : Place) (xs : List Decl) → Spells levels (SpellsIn production levels) (decls_before m) p xs q → TokensAreWhole p.rest → AreWhole (decls_words xs)

abbrev pub LexedTokensAreWhole : Type 0
LexedTokensAreWhole = (file : ℕ) (text : List ℕ) (tokens : List Token) → Lexes file text tokens → TokensAreWhole tokens
