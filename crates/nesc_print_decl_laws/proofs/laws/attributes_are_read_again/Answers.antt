use Rattle.nesc_print_decl_laws.proofs.DeclLaw.{attributes}
use Rattle.nesc_print_decl_laws.proofs.laws.attributes_are_read_again.Goals as goal

pub returns : goal.returns
returns c = attributes
