-- What the tokens of a text are: the text is separators and lexemes in turn (C99 6.4; own: what is refused, and where).
use Rattle.std.specs.Prelude.{◌≡◌, ℕ, ◌<◌, ◌≤◌, Bool, true, false, not, ◌&&◌, ◌||◌, List, [], ◌∷◌, ◌++◌, nat_eq, nat_le, length, take, map, codes}
use Rattle.std.specs.List.{list_any, starts_with, ends_with, prefix_len}
use Rattle.nm_base.specs.declared.token.Kind.{Kind}
use Rattle.nm_base.specs.declared.token.Token.{Token}
use Rattle.nm_base.specs.declared.pos.Pos.{Pos}
use Rattle.nm_base.specs.declared.refusal.Refusal.{Refusal}
use Rattle.nm_base.specs.declared.refusal.Refusal.TheVariants.{BadChar, OpenComment}
use Rattle.nm_base.specs.declared.fault.Fault.{Fault}
use Rattle.nm_base.specs.declared.fault.Fault.TheVariants.{Refused, NoMemory}
use Rattle.nesc_tokens.specs.declared.splice.SourceByte.{SourceByte}
use Rattle.nesc_tokens.specs.declared.pieces.Sort.{Sort}
use Rattle.nesc_tokens.specs.declared.pieces.Sort.TheVariants.{WhiteSpace, LineComment, BlockComment, Lexeme}
use Rattle.nesc_tokens.specs.CodePoints.{ends_line, is_white_space}
use Rattle.nesc_tokens.specs.Splices.{source_of}
use Rattle.nesc_tokens.specs.Spelling.{spells}

abbrev pub bytes_of : List SourceByte → List ℕ
bytes_of = map (λ s. s.byte)

-- ---- separators (C99 6.4.9)

abbrev pub begins : List ℕ → List ℕ → Bool
begins text bytes = starts_with nat_eq bytes text

abbrev pub begins_comment : List ℕ → Bool
begins_comment bytes = begins (codes "//") bytes || begins (codes "/*") bytes

abbrev pub ends : List ℕ → List ℕ → Bool
ends text bytes = ends_with nat_eq bytes text

-- the bytes are `/*`, something, and `*/`
abbrev pub is_closed_comment : List ℕ → Bool
is_closed_comment bytes = nat_le 4 (length bytes) && begins (codes "/*") bytes && ends (codes "*/") bytes

-- the first n bytes are a block comment: the shortest front that is one
pub record IsBlockComment (n : ℕ) (bytes : List ℕ) : Type 0 where
  pub within : n ≤ length bytes
  pub closed : is_closed_comment (take n bytes) ≡ true
  pub first : (m : ℕ) → m < n → is_closed_comment (take m bytes) ≡ false

-- ---- tokens

-- the first n bytes are a spelling of this kind, and no longer front is a spelling (C99 6.4, paragraph 4)
pub record IsLongest (kind : Kind) (n : ℕ) (bytes : List ℕ) : Type 0 where
  pub within : n ≤ length bytes
  pub spelled : spells kind (take n bytes) ≡ true
  pub longest : (other : Kind) (m : ℕ) → n < m → m ≤ length bytes → spells other (take m bytes) ≡ false

-- ---- the text in pieces

-- at the front of the bytes stands a piece of this sort, of n bytes
abbrev pub Stands : Sort → ℕ → List ℕ → Type 0
Stands WhiteSpace n bytes = (n ≡ 1) × (list_any is_white_space (take 1 bytes) ≡ true)
Stands LineComment n bytes = (n ≡ prefix_len (λ b. not (ends_line b)) bytes) × (begins (codes "//") bytes ≡ true)
Stands BlockComment n bytes = IsBlockComment n bytes
Stands (Lexeme kind) n bytes = (begins_comment bytes ≡ false) × IsLongest kind n bytes

pub record Piece : Type 0 where
  pub sort : Sort
  pub source : List SourceByte

-- the pieces one after the other, and then the rest
abbrev pub Divides : List Piece → List SourceByte → List SourceByte → Type 0
Divides [] source rest = source ≡ rest
Divides (p ∷ ps) source rest =
    (after : List SourceByte) × (source ≡ p.source ++ after) × Stands p.sort (length p.source) (bytes_of source)
    × Divides ps after rest

-- the place of the first byte
abbrev pub place_of : ℕ → List SourceByte → Pos
place_of file [] = record { file = file; line = 1; col = 1 }
place_of file (s ∷ _) = record { file = file; line = s.line; col = s.col }

-- the tokens that a piece gives: one, where it is a lexeme
abbrev pub tokens_of_piece : Sort → List ℕ → Pos → Bool → List Token
tokens_of_piece (Lexeme kind) text pos first = record { kind = kind; text = text; pos = pos; first = first } ∷ []
tokens_of_piece _ text pos first = []

-- whether a token behind the piece is the first of its line; a line feed in a comment begins no line: a comment is one
-- space (C99 5.1.1.2, phase 3)
abbrev pub first_behind : Sort → List ℕ → Bool → Bool
first_behind WhiteSpace text first = first || list_any ends_line text
first_behind LineComment text first = first
first_behind BlockComment text first = first
first_behind (Lexeme kind) text first = false

-- the tokens of the pieces, where `first` says that none stands before them on their line
abbrev pub tokens_of : ℕ → Bool → List Piece → List Token
tokens_of file first [] = []
tokens_of file first (p ∷ ps) =
    tokens_of_piece p.sort (bytes_of p.source) (place_of file p.source) first
    ++ tokens_of file (first_behind p.sort (bytes_of p.source) first) ps

-- ---- what lexing gives

-- the text divides into pieces, and these are their tokens
pub record Lexes (file : ℕ) (text : List ℕ) (tokens : List Token) : Type 0 where
  pub pieces : List Piece
  pub divided : Divides pieces (source_of text) []
  pub are_theirs : tokens ≡ tokens_of file true pieces

-- no separator and no token begins here
pub record BeginsNone (bytes : List ℕ) : Type 0 where
  pub some : 0 < length bytes
  pub no_white_space : list_any is_white_space (take 1 bytes) ≡ false
  pub no_comment : begins_comment bytes ≡ false
  pub no_token : (kind : Kind) (n : ℕ) → n ≤ length bytes → spells kind (take n bytes) ≡ false

-- a comment begins here, and has no end
pub record BeginsOpen (bytes : List ℕ) : Type 0 where
  pub opened : begins (codes "/*") bytes ≡ true
  pub no_end : (n : ℕ) → n ≤ length bytes → is_closed_comment (take n bytes) ≡ false

-- why a text is refused at the place where the rest begins
abbrev pub Why : ℕ → List SourceByte → Refusal → Type 0
Why file rest (BadChar p) = BeginsNone (bytes_of rest) × (p ≡ place_of file rest)
Why file rest (OpenComment p) = BeginsOpen (bytes_of rest) × (p ≡ place_of file rest)
Why file rest _ = ⊥

-- the text divides into pieces up to a first place where it is refused
pub record IsRefused (file : ℕ) (text : List ℕ) (refusal : Refusal) : Type 0 where
  pub pieces : List Piece
  pub rest : List SourceByte
  pub divided : Divides pieces (source_of text) rest
  pub why : Why file rest refusal

-- what lexing answers where it gives no tokens
abbrev pub Fails : ℕ → List ℕ → Fault → Type 0
Fails file text (Refused r) = IsRefused file text r
Fails file text NoMemory = Unit {0}
Fails file text _ = ⊥
