-- Worked rows of lexing.
use Rattle.std.specs.Prelude.{ℕ, true, false, List, [], ◌∷◌, codes}
use Rattle.nm_base.specs.declared.token.Kind.{Kind}
use Rattle.nm_base.specs.declared.token.Kind.TheVariants.{Word, Number, Char, Text, Sign}
use Rattle.nm_base.specs.declared.token.Token.{Token}
use Rattle.nm_base.specs.declared.pos.Pos.{Pos}
use Rattle.nm_base.specs.declared.refusal.Refusal.TheVariants.{BadChar, OpenComment}
use Rattle.nesc_tokens.specs.Lexes.{Lexes, IsRefused}

abbrev pub at : ℕ → ℕ → Pos
at line col = record { file = 0; line = line; col = col }

-- a token that is the first of its line, and one that is not
abbrev pub first : Kind → List ℕ → ℕ → ℕ → Token
first kind text line col = record { kind = kind; text = text; pos = at line col; first = true }

abbrev pub later : Kind → List ℕ → ℕ → ℕ → Token
later kind text line col = record { kind = kind; text = text; pos = at line col; first = false }

pub record WorkedRows : Type 0 where
  pub nothing : Lexes 0 [] []
  pub longest_sign :
      Lexes 0 (codes "a+++b")
      (first Word (codes "a") 1 1 ∷ later Sign (codes "++") 1 2 ∷ later Sign (codes "+") 1 4 ∷ later Word (codes "b") 1 5 ∷ [])
  pub arrow :
      Lexes 0 (codes "a<-b") (first Word (codes "a") 1 1 ∷ later Sign (codes "<-") 1 2 ∷ later Word (codes "b") 1 4 ∷ [])
  pub splice_in_word : Lexes 0 (codes "a\\\nb c") (first Word (codes "ab") 1 1 ∷ later Word (codes "c") 2 3 ∷ [])
  pub line_comment : Lexes 0 (codes "a//b\n c") (first Word (codes "a") 1 1 ∷ first Word (codes "c") 2 2 ∷ [])
  pub block_comment :
      Lexes 0 (codes "a/*\n**/b\nc")
      (first Word (codes "a") 1 1 ∷ later Word (codes "b") 2 4 ∷ first Word (codes "c") 3 1 ∷ [])
  pub hexadecimal : Lexes 0 (codes "0x1fuL") (first Number (codes "0x1fuL") 1 1 ∷ [])
  pub upper_case_x : Lexes 0 (codes "0X1") (first Number (codes "0") 1 1 ∷ later Word (codes "X1") 1 2 ∷ [])
  pub no_octal : Lexes 0 (codes "08") (first Number (codes "0") 1 1 ∷ later Number (codes "8") 1 2 ∷ [])
  pub escape : Lexes 0 (codes "'\\''") (first Char (codes "'\\''") 1 1 ∷ [])
  pub text : Lexes 0 (codes "\"\\\"\"") (first Text (codes "\"\\\"\"") 1 1 ∷ [])
  pub open_comment : IsRefused 0 (codes "x /* y") (OpenComment (at 1 3))
  pub open_slash_star_slash : IsRefused 0 (codes "/*/") (OpenComment (at 1 1))
  pub open_character : IsRefused 0 (codes "a 'b") (BadChar (at 1 3))
  pub bad_escape : IsRefused 0 (codes "\"\\q\"") (BadChar (at 1 1))
  pub lone_backslash : IsRefused 0 (codes "a\n\\") (BadChar (at 2 1))
