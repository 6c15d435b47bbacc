use Rattle.printed_words.proofs.Lexing.{laid_words_lex}
use Rattle.printed_words.proofs.laws.words_lex.Goals as goal

pub returns : goal.returns
returns c = laid_words_lex
