use Rattle.nesc_programs.proofs.OneApplication.{one_application}
use Rattle.nesc_programs.proofs.laws.one_application.Goals as goal

pub returns : goal.returns
returns c = one_application c.one_wiring.ensures c.one_program.ensures
