-- A text as it is read: its bytes with their places, without the line splices (C99 5.1.1.2, phase 2; own: also before
-- CR LF). Lines and columns count from 1, in bytes of the file.
use Rattle.std.specs.Prelude.{ℕ, ◌+◌, Bool, true, false, ◌&&◌, List, [], ◌∷◌, cond, ◌==◌}
use Rattle.nesc_tokens.specs.declared.splice.SourceByte.{SourceByte}
use Rattle.nesc_tokens.specs.CodePoints.{backslash, carriage_return, line_feed}

-- the line and the column of the byte behind one
abbrev pub line_behind : ℕ → ℕ → ℕ
line_behind byte line = cond (byte == line_feed) (line + 1) line

abbrev pub col_behind : ℕ → ℕ → ℕ
col_behind byte col = cond (byte == line_feed) 1 (col + 1)

-- each byte with its place, from a line and a column on
abbrev pub placed : ℕ → ℕ → List ℕ → List SourceByte
placed line col [] = []
placed line col (b ∷ bs) =
    record { byte = b; line = line; col = col } ∷ placed (line_behind b line) (col_behind b col) bs

-- a backslash and LF, or CR LF
abbrev pub is_short_splice : ℕ → ℕ → Bool
is_short_splice a b = a == backslash && b == line_feed

abbrev pub is_long_splice : ℕ → ℕ → ℕ → Bool
is_long_splice a b c = a == backslash && b == carriage_return && c == line_feed

-- without the splices
abbrev pub spliced : List SourceByte → List SourceByte
spliced [] = []
spliced (a ∷ []) = a ∷ []
spliced (a ∷ b ∷ []) = cond (is_short_splice a.byte b.byte) [] (a ∷ b ∷ [])
spliced (a ∷ b ∷ c ∷ rest) =
    elim (is_short_splice a.byte b.byte) [
      | true ↦ spliced (c ∷ rest)
      | false ↦ elim (is_long_splice a.byte b.byte c.byte) [
        | true ↦ spliced rest
        | false ↦ a ∷ spliced (b ∷ c ∷ rest)
      ]
    ]

abbrev pub source_of : List ℕ → List SourceByte
source_of text = spliced (placed 1 1 text)

-- how many bytes of a splice stand at the front
abbrev pub splice_len : List ℕ → ℕ
splice_len (a ∷ b ∷ c ∷ _) = cond (is_short_splice a b) 2 (cond (is_long_splice a b c) 3 0)
splice_len (a ∷ b ∷ []) = cond (is_short_splice a b) 2 0
splice_len _ = 0
