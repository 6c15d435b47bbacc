use Rattle.program_image.proofs.Behaving.{behaviour_keeps_laws}
use Rattle.program_image.proofs.law.behaviour_keeps_laws.Goals as goal

pub returns : goal.returns
returns c = behaviour_keeps_laws
