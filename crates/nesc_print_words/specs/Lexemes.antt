-- The words of which the texts of trees are made (C99 6.4).
use Rattle.std.specs.Prelude.{ℕ, Bool, true, false, zero, suc, List, [], ◌∷◌, ◌++◌, codes, Option, Some, None, if◌then◌else◌, nat_le}
use Rattle.nm_base.specs.declared.token.Kind.TheVariants as k
use Rattle.printed_words.specs.LaidOut.{Lexeme}

abbrev pub Words : Type 0
Words = List Lexeme

-- a keyword or a name
abbrev pub word : List ℕ → Lexeme
word text = record { kind = k.Word; text = text }

abbrev pub sign : List ℕ → Lexeme
sign text = record { kind = k.Sign; text = text }

abbrev pub number : List ℕ → Lexeme
number text = record { kind = k.Number; text = text }

abbrev pub character : List ℕ → Lexeme
character text = record { kind = k.Char; text = text }

abbrev pub literal : List ℕ → Lexeme
literal text = record { kind = k.Text; text = text }

abbrev pub comma : Lexeme
comma = sign (codes ",")

abbrev pub semicolon : Lexeme
semicolon = sign (codes ";")

abbrev pub star : Lexeme
star = sign (codes "*")

-- a keyword that stands there or does not
abbrev pub flagged : Bool → List ℕ → Words
flagged true text = word text ∷ []
flagged false text = []

-- ---- brackets of all kinds

abbrev pub in_parentheses : Words → Words
in_parentheses ws = sign (codes "(") ∷ (ws ++ sign (codes ")") ∷ [])

abbrev pub in_brackets : Words → Words
in_brackets ws = sign (codes "[") ∷ (ws ++ sign (codes "]") ∷ [])

abbrev pub in_braces : Words → Words
in_braces ws = sign (codes "{") ∷ (ws ++ sign (codes "}") ∷ [])

-- an expression of this level where one of at least that level stands
abbrev pub enclosed : ℕ → ℕ → Words → Words
enclosed least level ws = if nat_le least level then ws else in_parentheses ws

-- ---- lists

-- one behind the other
abbrev pub joined : List Words → Words
joined [] = []
joined (x ∷ xs) = x ++ joined xs

-- a comma before each
abbrev pub behind_commas : List Words → Words
behind_commas [] = []
behind_commas (x ∷ xs) = comma ∷ (x ++ behind_commas xs)

-- commas between them
abbrev pub listed : List Words → Words
listed [] = []
listed (x ∷ xs) = x ++ behind_commas xs

abbrev pub or_nothing : Option Words → Words
or_nothing None = []
or_nothing (Some ws) = ws

abbrev pub stars : ℕ → Words
stars zero = []
stars (suc n) = star ∷ stars n
