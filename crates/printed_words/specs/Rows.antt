-- Worked rows of words that may touch, and of whole words (own).
use Rattle.std.specs.Prelude.{◌≡◌, true, false, codes}
use Rattle.nm_base.specs.declared.token.Kind.TheVariants.{Word, Number, Char}
use Rattle.printed_words.specs.LaidOut.{is_whole, may_stand_behind}

pub record WorkedRows : Type 0 where
  -- f( and (*, a.b, but not two words, and not - - or / * together
  pub call : may_stand_behind (codes "f") (codes "(") ≡ true
  pub bracket : may_stand_behind (codes "f(") (codes "*") ≡ true
  pub member : may_stand_behind (codes "a.") (codes "b") ≡ true
  pub two_words : may_stand_behind (codes "return") (codes "x") ≡ false
  pub number_and_word : may_stand_behind (codes "1") (codes "u") ≡ false
  pub two_signs : may_stand_behind (codes "a-") (codes "-") ≡ false
  pub no_comment : may_stand_behind (codes "a/") (codes "*") ≡ false
  pub sign_of_bracket : may_stand_behind (codes "-") (codes "(") ≡ true
  pub text_and_word : may_stand_behind (codes "\"a\"") (codes "b") ≡ true
  pub behind_space : may_stand_behind (codes "a ") (codes "b") ≡ true
  pub first : may_stand_behind (codes "") (codes "b") ≡ true
  -- what is whole by itself
  pub word : is_whole (record { kind = Word; text = codes "uint8_t" }) ≡ true
  pub number : is_whole (record { kind = Number; text = codes "0x1fuL" }) ≡ true
  pub two : is_whole (record { kind = Word; text = codes "a b" }) ≡ false
  pub torn : is_whole (record { kind = Char; text = codes "'a" }) ≡ false
