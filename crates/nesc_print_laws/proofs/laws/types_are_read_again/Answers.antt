use Rattle.nesc_print_laws.proofs.Law.{types}
use Rattle.nesc_print_laws.proofs.laws.types_are_read_again.Goals as goal

pub returns : goal.returns
returns c = types
