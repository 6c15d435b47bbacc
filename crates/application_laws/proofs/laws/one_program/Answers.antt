use Rattle.application_laws.proofs.OneProgram.{one_program}
use Rattle.application_laws.proofs.laws.one_program.Goals as goal

pub returns : goal.returns
returns c = one_program c.one_given.ensures
