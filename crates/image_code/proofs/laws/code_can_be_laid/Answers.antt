-- The law of its name.
use Rattle.image_code.proofs.Whole.{code_can_be_laid as law}
use Rattle.image_code.proofs.laws.code_can_be_laid.Goals as goal

pub returns : goal.returns
returns c = law
