-- The forms that this profile leaves out (own): which one a token begins, and where it is meant.
use Rattle.std.specs.Prelude.{◌≡◌, ℕ, nat_eq, Bool, true, false, ◌||◌, if◌then◌else◌, List, [], ◌∷◌, ◌++◌, Option, Some, None, codes, ◌⊎◌}
use Rattle.std.specs.List.{starts_with}
use Rattle.nm_base.specs.declared.token.Token.{Token}
use Rattle.nm_base.specs.declared.token.Kind.{Kind}
use Rattle.nm_base.specs.declared.token.Kind.TheVariants as k
use Rattle.nm_base.specs.declared.refusal.Left.{Left}
use Rattle.nm_base.specs.declared.refusal.Left.TheVariants as l
use Rattle.nesc_tree.specs.declared.sorts.Sort.{Sort}
use Rattle.nesc_tree.specs.declared.sorts.Sort.TheVariants as s
pub use Rattle.nesc_tree.specs.Sorts.{sort}
use Rattle.nesc_tree.specs.Sorts.{Names}
use Rattle.nesc_grammar.specs.Grammar.{somewhere, spelled}
use Rattle.nesc_tree.specs.Phrase.{Phrase}
use Rattle.nesc_grammar.specs.Reach.{Begins}
use Rattle.nesc_left_out.specs.declared.left.Place.{Place}
use Rattle.nesc_left_out.specs.declared.left.Place.TheVariants as p
use Rattle.nesc_operands.specs.Spelling.{row_of}

-- the form, and where it is meant
abbrev pub Row : Type 0
Row = Option (Left × Place)

abbrev pub words : List (List ℕ × Row)
words =
    (codes "goto", Some (l.Goto, p.Anywhere)) ∷
    (codes "float", Some (l.Float, p.Anywhere)) ∷
    (codes "double", Some (l.Float, p.Anywhere)) ∷
    (codes "long", Some (l.Wide, p.SecondLong)) ∷
    (codes "int64_t", Some (l.Wide, p.Type)) ∷
    (codes "uint64_t", Some (l.Wide, p.Type)) ∷
    (codes "union", Some (l.Union, p.Anywhere)) ∷
    (codes "nx_union", Some (l.Union, p.Anywhere)) ∷
    (codes "static", Some (l.Static, p.Statement)) ∷
    (codes "extern", Some (l.Extern, p.Anywhere)) ∷
    (codes "includes", Some (l.Includes, p.Anywhere)) ∷
    (codes "asm", Some (l.Asm, p.Anywhere)) ∷
    (codes "__asm__", Some (l.Asm, p.Anywhere)) ∷
    (codes "__attribute__", Some (l.Attribute, p.Anywhere)) ∷
    (codes "nx_struct", Some (l.Nx, p.Anywhere)) ∷
    (codes "command", Some (l.Bare, p.Element)) ∷
    (codes "event", Some (l.Bare, p.Element)) ∷
    []

abbrev pub signs : List (List ℕ × Row)
signs =
    (codes "hwevent", Some (l.Hwevent, p.Anywhere)) ∷
    (codes "...", Some (l.Varargs, p.Anywhere)) ∷
    (codes ":", Some (l.Bitfield, p.FieldEnd)) ∷
    (codes "(", Some (l.Declarator, p.Declarator)) ∷
    (codes ";", Some (l.Variable, p.HeaderName)) ∷
    (codes "=", Some (l.Variable, p.HeaderName)) ∷
    (codes ",", Some (l.Variable, p.HeaderName)) ∷
    (codes "[", Some (l.Variable, p.HeaderName)) ∷
    []

abbrev pub is_network : List ℕ → Bool
is_network word = starts_with nat_eq word (codes "nx_") || starts_with nat_eq word (codes "nxle_")

abbrev pub other_word : List ℕ → Row
other_word word = if is_network word then Some (l.Nx, p.Type) else None

abbrev pub row_by : Kind → Token → Row
row_by k.Word t = row_of words t (other_word t.text)
row_by k.Sign t = row_of signs t None
row_by k.Text t = Some (l.Text, p.Operand)
row_by k.Number t = None
row_by k.Char t = None

-- the form that the token begins
unfoldable pub row : Token → Row
row t = row_by t.kind t

-- a comma begins another one in a bracket
abbrev pub comma_row : Token → Row
comma_row t = if spelled t (codes ",") then Some (l.Parameters, p.Bracket) else None

-- the token begins the form at such a place
abbrev pub IsListed : Token → Left → Place → Type 0
IsListed t word place = (row t ≡ Some (word, place)) ⊎ (comma_row t ≡ Some (word, place))

-- ---- the place where it is meant

abbrev pub token : Kind → List ℕ → Token
token kind text = record { kind = kind; text = text; pos = somewhere.pos; first = false }

abbrev pub sign : List ℕ → Token
sign text = token k.Sign text

abbrev pub word : List ℕ → Token
word text = token k.Word text

abbrev pub number : Token
number = token k.Number (codes "0")

abbrev pub long_with : Bool → Sort → Token → Bool
long_with found s.Length t = spelled t (codes "long")
long_with found s.Qualifier t = found
long_with found s.Signedness t = found
long_with found s.Int t = found
long_with found _ t = false

-- whether the tokens end with words of an integer type, `long` among them
abbrev pub ends_long : Names → Bool → List Token → Bool
ends_long names found [] = found
ends_long names found (t ∷ ts) = ends_long names (long_with found (sort names t) t) ts

module _ (k : Phrase) (names : Names) (before : List Token) where
  -- the token could stand behind the others
  abbrev pub Stands : Token → Type 0
  Stands t = Begins k names (before ++ (t ∷ []))

  abbrev pub StandsNot : Token → Type 0
  StandsNot t = Stands t → ⊥

  -- whether the place behind the tokens is such a one: a parameter of a bracket ends with its name, so no operator goes on it; behind a field
  -- stands no initialiser, as behind a variable, and no operator; behind the name that a header declares stand parameters, or the name of an item
  abbrev pub IsMeant : Place → Type 0
  IsMeant p.Anywhere = Unit {0}
  IsMeant p.Type = Stands (word (codes "void"))
  IsMeant p.Operand = Stands number
  IsMeant p.Statement = Stands number × Stands (sign (codes ";"))
  IsMeant p.Declarator = Stands (sign (codes "*")) × Stands (word (codes "a"))
  IsMeant p.FieldEnd = Stands (sign (codes ";")) × Stands (sign (codes ",")) × Stands (sign (codes "[")) × StandsNot (sign (codes "=")) × StandsNot (sign (codes "+"))
  IsMeant p.HeaderName = Stands (sign (codes "(")) × Stands (sign (codes ".")) × StandsNot (sign (codes "["))
  IsMeant p.Element = Stands (word (codes "interface"))
  IsMeant p.Bracket = Stands (sign (codes "]")) × StandsNot (sign (codes "+"))
  IsMeant p.SecondLong = ends_long names false before ≡ true
