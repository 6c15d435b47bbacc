-- What is proved of parsing what was printed.
use Rattle.std.specs.Prelude.{◌≡◌, ℕ, List, Result, Ok, Err}
use Rattle.nm_base.specs.declared.fault.Fault.{Fault}
use Rattle.nm_base.specs.declared.fault.Fault.TheVariants as f
use Rattle.nm_base.specs.declared.limit.Which.TheVariants as w
use Rattle.nm_base.specs.declared.token.Token.{Token}
use Rattle.nesc_tokens.specs.Lexes.{Lexes}
use Rattle.nesc_tree.specs.declared.components.Unit as unit
use Rattle.nesc_tree.specs.Sorts.{Names}
use Rattle.printed_words.specs.LaidOut.{Laid}
use Rattle.nesc_print_words.specs.Components.{unit_words}
use Rattle.nesc_print_whole.specs.WholeWords.{TokensAreWhole}
use Rattle.nesc_print_unit_laws.specs.UnitShapes.{unit_shape}
use Rattle.nesc_parse_comp.specs.declared.kinds.UnitKind.{UnitKind}
use Rattle.nesc_parse_comp.specs.Units.{IsUnit, Parses}

-- the limit of depth, or want of memory
abbrev pub IsLimit : Fault → Type 0
IsLimit (f.Limit l) = l ≡ record { which = w.Depth; have = 201 }
IsLimit f.NoMemory = Unit {0}
IsLimit _ = ⊥

-- the same tree up to places, or a limit
abbrev pub IsAgain : unit.Unit → Result unit.Unit Fault → Type 0
IsAgain u (Ok v) = unit_shape v ≡ unit_shape u
IsAgain u (Err e) = IsLimit e

-- the text has tokens, and whatever the parser may answer to them is this
pub record ParsesAgain (k : UnitKind) (file : ℕ) (text name : List ℕ) (names : Names) (u : unit.Unit) : Type 0 where
  pub tokens : List Token
  pub lexes : Lexes file text tokens
  pub answers : (answer : Result unit.Unit Fault) (after : Names) → Parses k file tokens name names after answer → IsAgain u answer

abbrev pub PrintedFilesAreParsedAgain : Type 0
PrintedFilesAreParsedAgain = (k : UnitKind) (file : ℕ) (ts : List Token) (name : List ℕ) (names after : Names) (u : unit.Unit) → IsUnit k file ts name names u after → TokensAreWhole ts
    → (printed : ℕ) (text : List ℕ) → Laid text (unit_words u) → ParsesAgain k printed text name names u
