use Rattle.program_image.proofs.Behaving.{behaviour_keeps_functions}
use Rattle.program_image.proofs.law.behaviour_keeps_functions.Goals as goal

pub returns : goal.returns
returns c = behaviour_keeps_functions
