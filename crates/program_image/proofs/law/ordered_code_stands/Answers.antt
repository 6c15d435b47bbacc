use Rattle.program_image.proofs.Ordered.{ordered_code_stands}
use Rattle.program_image.proofs.law.ordered_code_stands.Goals as goal

pub returns : goal.returns
returns c = ordered_code_stands
