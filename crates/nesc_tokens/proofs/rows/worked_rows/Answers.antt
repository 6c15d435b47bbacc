use Rattle.std.proofs.Common.{ℕ, [], ◌∷◌, refl}
use Rattle.std.specs.Prelude.{codes}
use Rattle.nm_base.specs.declared.token.Kind.{Kind}
use Rattle.nm_base.specs.declared.token.Kind.TheVariants.{Word, Number, Char, Text, Sign}
use Rattle.nesc_tokens.specs.declared.pieces.Sort.TheVariants.{WhiteSpace, LineComment, BlockComment, Lexeme}
use Rattle.nesc_tokens.specs.Spelling.{signs, suffixes, simple_escapes}
use Rattle.nesc_tokens.specs.Rows.{at}
use Rattle.nesc_tokens.proofs.Tested.{Cut, row_lexes, row_bad, row_open}
use Rattle.nesc_tokens.proofs.rows.worked_rows.Goals as goal

abbrev space : Cut
space = record { sort = WhiteSpace; len = 1 }

abbrev token : Kind → ℕ → Cut
token kind n = record { sort = Lexeme kind; len = n }

abbrev line : ℕ → Cut
line n = record { sort = LineComment; len = n }

abbrev block : ℕ → Cut
block n = record { sort = BlockComment; len = n }

pub returns : goal.returns
unfolding signs suffixes simple_escapes
returns c = record {
  nothing = row_lexes [] [] [] refl refl refl;
  longest_sign = row_lexes (codes "a+++b") (token Word 1 ∷ token Sign 2 ∷ token Sign 1 ∷ token Word 1 ∷ []) _ refl refl refl;
  arrow = row_lexes (codes "a<-b") (token Word 1 ∷ token Sign 2 ∷ token Word 1 ∷ []) _ refl refl refl;
  splice_in_word = row_lexes (codes "a\\\nb c") (token Word 2 ∷ space ∷ token Word 1 ∷ []) _ refl refl refl;
  line_comment = row_lexes (codes "a//b\n c") (token Word 1 ∷ line 3 ∷ space ∷ space ∷ token Word 1 ∷ []) _ refl refl refl;
  block_comment = row_lexes (codes "a/*\n**/b\nc") (token Word 1 ∷ block 6 ∷ token Word 1 ∷ space ∷ token Word 1 ∷ []) _ refl refl refl;
  hexadecimal = row_lexes (codes "0x1fuL") (token Number 6 ∷ []) _ refl refl refl;
  upper_case_x = row_lexes (codes "0X1") (token Number 1 ∷ token Word 2 ∷ []) _ refl refl refl;
  no_octal = row_lexes (codes "08") (token Number 1 ∷ token Number 1 ∷ []) _ refl refl refl;
  escape = row_lexes (codes "'\\''") (token Char 4 ∷ []) _ refl refl refl;
  text = row_lexes (codes "\"\\\"\"") (token Text 4 ∷ []) _ refl refl refl;
  open_comment = row_open (codes "x /* y") (token Word 1 ∷ space ∷ []) (at 1 3) refl refl refl;
  open_slash_star_slash = row_open (codes "/*/") [] (at 1 1) refl refl refl;
  open_character = row_bad (codes "a 'b") (token Word 1 ∷ space ∷ []) (at 1 3) refl refl refl;
  bad_escape = row_bad (codes "\"\\q\"") [] (at 1 1) refl refl refl;
  lone_backslash = row_bad (codes "a\n\\") (token Word 1 ∷ space ∷ []) (at 2 1) refl refl refl;
}
