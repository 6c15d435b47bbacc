-- The law of its name.
use Rattle.image_code.proofs.Whole.{laid_code_runs as law}
use Rattle.image_code.proofs.laws.laid_code_runs.Goals as goal

pub returns : goal.returns
returns c = law c.program_images_run.ensures
