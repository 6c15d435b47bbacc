use Rattle.nesc_print_whole.proofs.Units.{words}
use Rattle.nesc_print_whole.proofs.laws.printed_words_are_whole.Goals as goal

pub returns : goal.returns
returns c = words
