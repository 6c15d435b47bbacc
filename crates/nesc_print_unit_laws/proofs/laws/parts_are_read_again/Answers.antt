use Rattle.nesc_print_unit_laws.proofs.UnitLaw.{parts}
use Rattle.nesc_print_unit_laws.proofs.laws.parts_are_read_again.Goals as goal

pub returns : goal.returns
returns c = parts
