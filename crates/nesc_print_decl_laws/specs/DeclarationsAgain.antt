-- What is proved of printing declarations outside of blocks, and attributes.
use Rattle.std.specs.Prelude.{◌≡◌, ℕ, true, false, List, [], ◌∷◌, ◌++◌, map}
use Rattle.nm_base.specs.declared.token.Token.{Token}
use Rattle.nesc_tree.specs.declared.contexts.Site.{Site}
use Rattle.nesc_tree.specs.declared.declarations.Attr.{Attr}
use Rattle.nesc_tree.specs.declared.declarations.Decl.{Decl}
use Rattle.nesc_tree.specs.Form.{Form, Place, Spells, SpellsIn}
use Rattle.nesc_tree.specs.Phrase.{Phrase, Of, begins_decl, ends_decls}
use Rattle.nesc_tree.specs.Sorts.{Names, ahead, sort}
use Rattle.nesc_grammar.specs.Declarations.{decls_before}
use Rattle.nesc_grammar.specs.Production.{production}
use Rattle.printed_words.specs.LaidOut.{lexeme_of}
use Rattle.nesc_print_words.specs.Declarations.{attr_words}
use Rattle.nesc_print_words.specs.Statements.{decl_words, decls_words}
use Rattle.nesc_print_laws.specs.ReadAgain.{ReadAgain}
use Rattle.nesc_print_laws.specs.Shapes.{attr_shape, decl_shape}

-- these tokens, before the others, spell such a tree of the phrase, and the names behind it are these
pub record ReadBetween (k : Phrase) (names after : Names) (ts rest : List Token) (IsSame : Of k → Type 0) : Type 0 where
  pub levels : ℕ
  pub tree : Of k
  pub spelled : SpellsIn production levels k (record { names = names; rest = ts ++ rest }) tree (record { names = after; rest = rest })
  pub same : IsSame tree

-- the same by a form that is no phrase of its own
pub record FormBetween {A : Type 0} (f : Form A) (names after : Names) (ts rest : List Token) (IsSame : A → Type 0) : Type 0 where
  pub levels : ℕ
  pub value : A
  pub spelled : Spells levels (SpellsIn production levels) f (record { names = names; rest = ts ++ rest }) value (record { names = after; rest = rest })
  pub same : IsSame value

-- the same declarations up to places
abbrev pub SameDecls : List Decl → List Decl → Type 0
SameDecls xs ys = map decl_shape ys ≡ map decl_shape xs

-- the words of a declaration, before any token
abbrev pub DeclarationsAreReadAgain : Type 0
DeclarationsAreReadAgain = (levels : ℕ) (m : Site) (p q : Place) (x : Decl) → SpellsIn production levels (Phrase.decl m) p x q
    → (ts rest : List Token) → map lexeme_of ts ≡ decl_words x
    → ReadBetween (Phrase.decl m) p.names q.names ts rest (λ y. decl_shape y ≡ decl_shape x)

pub record DeclarationListsAreReadAgain : Type 0 where
  -- before a token that begins no declaration
  pub before : (levels : ℕ) (m : Site) (p q : Place) (xs : List Decl) → Spells levels (SpellsIn production levels) (decls_before m) p xs q
      → (ts rest : List Token) → map lexeme_of ts ≡ decls_words xs → begins_decl m (ahead q.names rest) ≡ false
      → FormBetween (decls_before m) p.names q.names ts rest (SameDecls xs)
  -- with a token that ends them
  pub ended : (levels : ℕ) (m : Site) (p q : Place) (xs : List Decl) → SpellsIn production levels (Phrase.decls m) p xs q
      → (ts rest : List Token) (t : Token) → map lexeme_of ts ≡ decls_words xs → ends_decls (sort q.names t) ≡ true
      → ReadBetween (Phrase.decls m) p.names q.names (ts ++ (t ∷ [])) rest (SameDecls xs)

abbrev pub AttributesAreReadAgain : Type 0
AttributesAreReadAgain = (levels : ℕ) (p q : Place) (x : Attr) → SpellsIn production levels Phrase.attribute p x q
    → (ts rest : List Token) → map lexeme_of ts ≡ attr_words x
    → ReadAgain Phrase.attribute p.names ts rest (λ y. attr_shape y ≡ attr_shape x)
