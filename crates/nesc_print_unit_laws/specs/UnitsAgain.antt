-- What is proved of printing interfaces and components behind the declarations of their headers.
use Rattle.std.specs.Prelude.{◌≡◌, ℕ, Bool, false, List, [], ◌++◌, map}
use Rattle.nm_base.specs.declared.token.Token.{Token}
use Rattle.nesc_tree.specs.declared.sorts.Sort.{Sort}
use Rattle.nesc_tree.specs.declared.components.ConfLine.{ConfLine}
use Rattle.nesc_tree.specs.declared.components.Elem.{Elem}
use Rattle.nesc_tree.specs.declared.components.GenericParam.{GenericParam}
use Rattle.nesc_tree.specs.declared.components.Sig.{Sig}
use Rattle.nesc_tree.specs.declared.components.Unit as unit
use Rattle.nesc_tree.specs.Form.{Form, Place, SpellsIn}
use Rattle.nesc_tree.specs.Phrase.{Phrase, begins_line}
use Rattle.nesc_tree.specs.Sorts.{ahead}
use Rattle.nesc_grammar.specs.Components.{is_specify}
use Rattle.nesc_grammar.specs.Grammar.{when}
use Rattle.nesc_grammar.specs.Grammar as grammar
use Rattle.nesc_grammar.specs.Production.{production}
use Rattle.printed_words.specs.LaidOut.{lexeme_of}
use Rattle.nesc_print_words.specs.Lexemes.{in_parentheses, joined, listed}
use Rattle.nesc_print_words.specs.Components.{unit_words, sig_words, generic_param_words, elem_words, line_words}
use Rattle.nesc_print_decl_laws.specs.DeclarationsAgain.{ReadBetween, FormBetween}
use Rattle.nesc_print_unit_laws.specs.UnitShapes.{unit_shape, sig_shape, generic_param_shape, elem_shape, line_shape}

-- the words of an interface or a component, with those of the declarations before it, before any token
abbrev pub InterfacesAreReadAgain : Type 0
InterfacesAreReadAgain = (levels : ℕ) (p q : Place) (u : unit.Unit) → SpellsIn production levels Phrase.interface p u q
    → (ts rest : List Token) → map lexeme_of ts ≡ unit_words u
    → ReadBetween Phrase.interface p.names q.names ts rest (λ v. unit_shape v ≡ unit_shape u)

abbrev pub ComponentsAreReadAgain : Type 0
ComponentsAreReadAgain = (levels : ℕ) (p q : Place) (u : unit.Unit) → SpellsIn production levels Phrase.component p u q
    → (ts rest : List Token) → map lexeme_of ts ≡ unit_words u
    → ReadBetween Phrase.component p.names q.names ts rest (λ v. unit_shape v ≡ unit_shape u)

-- parts one behind the other, of which each gives some of the list
abbrev pub in_turn : {A : Type 0} → (Sort → Bool) → Form (List A) → Form (List A)
in_turn go part = Form.many go [] (λ x. when (go x) (grammar.map (λ more l. l ++ more) part))

-- what stands between the braces of a component's head and of a configuration
abbrev pub specifications : Form (List Elem)
specifications = in_turn is_specify (Form.sub Phrase.spec (λ x. x))

abbrev pub conf_lines : Form (List ConfLine)
conf_lines = in_turn begins_line (Form.sub Phrase.line (λ x. x))

pub record PartsAreReadAgain : Type 0 where
  -- a command or event of an interface
  pub items : (levels : ℕ) (p q : Place) (x : Sig) → SpellsIn production levels Phrase.item p x q
      → (ts rest : List Token) → map lexeme_of ts ≡ sig_words x
      → ReadBetween Phrase.item p.names q.names ts rest (λ y. sig_shape y ≡ sig_shape x)
  -- the parameters of a generic component
  pub generics : (levels : ℕ) (p q : Place) (xs : List GenericParam) → SpellsIn production levels Phrase.generics p xs q
      → (ts rest : List Token) → map lexeme_of ts ≡ in_parentheses (listed (map generic_param_words xs))
      → ReadBetween Phrase.generics p.names q.names ts rest (λ ys. map generic_param_shape ys ≡ map generic_param_shape xs)
  -- the elements of a specification, each behind a word of its own, before a token that begins none
  pub elements : (levels : ℕ) (p q : Place) (xs : List Elem) → SpellsIn production levels Phrase.spec p xs q
      → (ts rest : List Token) → map lexeme_of ts ≡ joined (map elem_words xs) → is_specify (ahead q.names rest) ≡ false
      → FormBetween specifications p.names q.names ts rest (λ ys. map elem_shape ys ≡ map elem_shape xs)
  -- what a line of a configuration gives, each on a line of its own, before a token that begins none
  pub lines : (levels : ℕ) (p q : Place) (xs : List ConfLine) → SpellsIn production levels Phrase.line p xs q
      → (ts rest : List Token) → map lexeme_of ts ≡ joined (map line_words xs) → begins_line (ahead q.names rest) ≡ false
      → FormBetween conf_lines p.names q.names ts rest (λ ys. map line_shape ys ≡ map line_shape xs)
