-- From compiled functions to runs.
use Rattle.compiled_image.proofs.Compiled.{compiled_images_run}
use Rattle.compiled_image.proofs.law.compiled_images_run.Goals as goal

pub returns : goal.returns
returns c = compiled_images_run
