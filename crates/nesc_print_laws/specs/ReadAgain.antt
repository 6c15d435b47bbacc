-- What is proved of printing: tokens that are the words of a tree spell it again, up to places, where some tokens spell it.
use Rattle.std.specs.Prelude.{◌≡◌, ℕ, false, List, ◌++◌, map}
use Rattle.nm_base.specs.declared.token.Token.{Token}
use Rattle.nesc_tree.specs.declared.operand.Operand.{Operand}
use Rattle.nesc_tree.specs.declared.operand.CastType.{CastType}
use Rattle.nesc_tree.specs.Choices.{stay_type}
use Rattle.nesc_tree.specs.Form.{Place, SpellsIn}
use Rattle.nesc_tree.specs.Phrase.{Phrase, Of}
use Rattle.nesc_tree.specs.Sorts.{Names, ahead}
use Rattle.nesc_tree.specs.View.{expr_of, spec_of}
use Rattle.nesc_grammar.specs.Grammar.{may}
use Rattle.nesc_grammar.specs.Production.{production}
use Rattle.printed_words.specs.LaidOut.{lexeme_of}
use Rattle.nesc_print_words.specs.Expressions.{type_words, words_at}
use Rattle.nesc_print_laws.specs.Placeless.{placeless, placeless_type}

-- these tokens, before the others, spell such a tree of the phrase; the names stay
pub record ReadAgain (k : Phrase) (names : Names) (ts rest : List Token) (IsSame : Of k → Type 0) : Type 0 where
  pub levels : ℕ
  pub tree : Of k
  pub spelled : SpellsIn production levels k (record { names = names; rest = ts ++ rest }) tree (record { names = names; rest = rest })
  pub same : IsSame tree

-- the same expression up to places
abbrev pub SameOperand : Operand → Operand → Type 0
SameOperand a b = placeless (expr_of b.expr) ≡ placeless (expr_of a.expr)

abbrev pub SameCastType : CastType → CastType → Type 0
SameCastType t u = placeless_type (spec_of u.ty) ≡ placeless_type (spec_of t.ty)

-- an expression's words where one of at least level m stands, before a token that goes on no expression of that level
abbrev pub ExpressionsAreReadAgain : Type 0
ExpressionsAreReadAgain = (levels least m : ℕ) (p q : Place) (a : Operand) → SpellsIn production levels (Phrase.expr least) p a q
    → (ts rest : List Token) → map lexeme_of ts ≡ words_at m (expr_of a.expr) → may m (ahead p.names rest) ≡ false
    → ReadAgain (Phrase.expr m) p.names ts rest (SameOperand a)

-- the words of a type, definitions of structs and enums among them, before a token that goes on no type
abbrev pub TypesAreReadAgain : Type 0
TypesAreReadAgain = (levels : ℕ) (p q : Place) (t : CastType) → SpellsIn production levels Phrase.type p t q
    → (ts rest : List Token) → map lexeme_of ts ≡ type_words (spec_of t.ty) → stay_type (ahead p.names rest) ≡ false
    → ReadAgain Phrase.type p.names ts rest (SameCastType t)
