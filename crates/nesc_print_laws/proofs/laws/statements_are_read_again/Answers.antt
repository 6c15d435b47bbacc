use Rattle.nesc_print_laws.proofs.StmtLaw.{statements}
use Rattle.nesc_print_laws.proofs.laws.statements_are_read_again.Goals as goal

pub returns : goal.returns
returns c = statements
