use Rattle.nesc_print_unit_laws.proofs.UnitLaw.{interfaces}
use Rattle.nesc_print_unit_laws.proofs.laws.interfaces_are_read_again.Goals as goal

pub returns : goal.returns
returns c = interfaces
