use Rattle.nesc_print_whole.proofs.Lexed.{lexed}
use Rattle.nesc_print_whole.proofs.laws.lexed_tokens_are_whole.Goals as goal

pub returns : goal.returns
returns c = lexed
