use Rattle.std.proofs.Common.{refl}
use Rattle.nesc_tokens.specs.Spelling.{signs, suffixes, simple_escapes}
use Rattle.printed_words.proofs.rows.worked_rows.Goals as goal

pub returns : goal.returns
unfolding signs suffixes simple_escapes
returns c = record {
  call = refl;
  bracket = refl;
  member = refl;
  two_words = refl;
  number_and_word = refl;
  two_signs = refl;
  no_comment = refl;
  sign_of_bracket = refl;
  text_and_word = refl;
  behind_space = refl;
  first = refl;
  word = refl;
  number = refl;
  two = refl;
  torn = refl;
}
