-- Bytes that line splices join to a word: they stand directly behind it, and it begins on an earlier line (C99 5.1.1.2, phase 2; own: that they are listed).
use Rattle.std.specs.Prelude.{ℕ, Bool, true, false, not, ◌&&◌, ◌||◌, List, [], ◌∷◌, nat_eq}
use Rattle.std.specs.List.{list_any}
use Rattle.nm_base.specs.declared.pos.Pos.{Pos}
use Rattle.nesc_tokens.specs.declared.splice.SourceByte.{SourceByte}
use Rattle.nesc_tokens.specs.CodePoints.{is_word_byte}
use Rattle.nesc_tokens.specs.Splices.{source_of}

-- the second byte as it is read is behind a byte of a word, which begins on an earlier line; `split` says that of the first
abbrev pub joins : Bool → SourceByte → SourceByte → Bool
joins split a b = is_word_byte a.byte && (split || not (nat_eq a.line b.line))

abbrev pub joined_of : Bool → List SourceByte → List SourceByte
joined_of split [] = []
joined_of split (a ∷ []) = []
joined_of split (a ∷ b ∷ rest) = elim (joins split a b) [ true ↦ b ∷ joined_of true (b ∷ rest) | false ↦ joined_of false (b ∷ rest) ]

-- the bytes of a text that stand directly behind a byte of a word that begins on an earlier line
abbrev pub joined_bytes : List ℕ → List SourceByte
joined_bytes text = joined_of false (source_of text)

abbrev pub stands_at : Pos → SourceByte → Bool
stands_at pos b = nat_eq b.line pos.line && nat_eq b.col pos.col

-- whether one of them stands at this place
abbrev pub is_joined : List ℕ → Pos → Bool
is_joined text pos = list_any (stands_at pos) (joined_bytes text)
