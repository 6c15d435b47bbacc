-- From laid out functions to runs.
use Rattle.compiled_image.proofs.Laid.{laid_programs_run}
use Rattle.compiled_image.proofs.law.laid_programs_run.Goals as goal

pub returns : goal.returns
returns c = laid_programs_run
