use Rattle.nesc_print_decl_laws.proofs.DeclLaw.{lists}
use Rattle.nesc_print_decl_laws.proofs.laws.declaration_lists_are_read_again.Goals as goal

pub returns : goal.returns
returns c = lists
