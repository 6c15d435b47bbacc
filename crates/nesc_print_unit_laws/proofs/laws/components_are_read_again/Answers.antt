use Rattle.nesc_print_unit_laws.proofs.UnitLaw.{components}
use Rattle.nesc_print_unit_laws.proofs.laws.components_are_read_again.Goals as goal

pub returns : goal.returns
returns c = components
