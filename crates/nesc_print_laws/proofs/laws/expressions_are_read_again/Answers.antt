use Rattle.nesc_print_laws.proofs.Law.{expressions}
use Rattle.nesc_print_laws.proofs.laws.expressions_are_read_again.Goals as goal

pub returns : goal.returns
returns c = expressions
