-- The promise of printing: the text of a tree that some tokens spell has tokens again, and they spell the same tree up to places.
use Rattle.std.specs.Prelude.{◌≡◌, ℕ, List, []}
use Rattle.nm_base.specs.declared.token.Token.{Token}
use Rattle.nesc_tokens.specs.Lexes.{Lexes}
use Rattle.nesc_tree.specs.declared.contexts.Site.TheVariants as site
use Rattle.nesc_tree.specs.declared.components.Part.TheVariants as part
use Rattle.nesc_tree.specs.declared.components.Unit as unit
use Rattle.nesc_tree.specs.Form.{Place, Spells, SpellsIn}
use Rattle.nesc_tree.specs.Phrase.{Phrase}
use Rattle.nesc_tree.specs.Sorts.{Names}
use Rattle.nesc_grammar.specs.Declarations.{decls_before}
use Rattle.nesc_grammar.specs.Production.{production}
use Rattle.printed_words.specs.LaidOut.{Laid}
use Rattle.nesc_print_words.specs.Components.{unit_words}
use Rattle.nesc_print_whole.specs.WholeWords.{TokensAreWhole}
use Rattle.nesc_print_unit_laws.specs.UnitShapes.{unit_shape}

abbrev pub place : Names → List Token → Place
place names ts = record { names = names; rest = ts }

-- all the tokens spell what a file holds, with some number of levels; behind them the other names are in force
pub data IsFile (names after : Names) (ts : List Token) (u : unit.Unit) : Type 0 where
  interface : (levels : ℕ) → SpellsIn production levels Phrase.interface (place names ts) u (place after []) → IsFile names after ts u
  component : (levels : ℕ) → SpellsIn production levels Phrase.component (place names ts) u (place after []) → IsFile names after ts u
  -- declarations alone
  header : (levels : ℕ) → u.part ≡ part.Header → Spells levels (SpellsIn production levels) (decls_before site.Header) (place names ts) u.decls (place after [])
      → IsFile names after ts u

-- the text has tokens, and they spell the same tree up to places, under the same names and with the same names behind it
pub record ReadsBack (names after : Names) (file : ℕ) (text : List ℕ) (u : unit.Unit) : Type 0 where
  pub tokens : List Token
  pub lexes : Lexes file text tokens
  pub whole : TokensAreWhole tokens
  pub tree : unit.Unit
  pub is_file : IsFile names after tokens tree
  pub same : unit_shape tree ≡ unit_shape u

-- tokens that are lexemes by themselves, as all that lexing gives
abbrev pub PrintedFilesAreReadAgain : Type 0
PrintedFilesAreReadAgain = (names after : Names) (ts : List Token) (u : unit.Unit) → IsFile names after ts u → TokensAreWhole ts
    → (file : ℕ) (text : List ℕ) → Laid text (unit_words u) → ReadsBack names after file text u
