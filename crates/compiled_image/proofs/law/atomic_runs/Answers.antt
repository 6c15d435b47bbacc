-- The image whose handlers act.
use Rattle.compiled_image.proofs.AtomicImage.{atomic_runs}
use Rattle.compiled_image.proofs.law.atomic_runs.Goals as goal

pub returns : goal.returns
returns c = atomic_runs
