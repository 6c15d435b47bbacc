-- What stands at the front of some bytes, as the lexer finds it (own).
use Rattle.std.specs.Prelude.{ℕ, ◌<◌, ◌≤◌, ◌≡◌, false, Option, Some, None, List, length, take}
use Rattle.nesc_tokens.specs.declared.pieces.Front.{Front}
use Rattle.nesc_tokens.specs.declared.pieces.Front.TheVariants.{Piece, OpenComment, BadByte}
use Rattle.nesc_tokens.specs.Lexes.{Stands, BeginsNone, BeginsOpen, IsBlockComment, is_closed_comment}

abbrev pub Begins : Front → List ℕ → Type 0
Begins (Piece sort n) bytes = (0 < n) × (n ≤ length bytes) × Stands sort n bytes
Begins OpenComment bytes = BeginsOpen bytes
Begins BadByte bytes = BeginsNone bytes

-- the block comment at the front, or none where it has no end
abbrev pub CommentAt : Option ℕ → List ℕ → Type 0
CommentAt (Some n) bytes = (0 < n) × IsBlockComment n bytes
CommentAt None bytes = (n : ℕ) → n ≤ length bytes → is_closed_comment (take n bytes) ≡ false
