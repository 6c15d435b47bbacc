use Rattle.nesc_print_decl_laws.proofs.DeclLaw.{declarations}
use Rattle.nesc_print_decl_laws.proofs.laws.declarations_are_read_again.Goals as goal

pub returns : goal.returns
returns c = declarations
