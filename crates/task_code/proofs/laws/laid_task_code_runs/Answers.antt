-- The law of its name.
use Rattle.task_code.proofs.Running.{laid_code_runs as law}
use Rattle.task_code.proofs.laws.laid_task_code_runs.Goals as goal

pub returns : goal.returns
returns c = law c.task_code_stands.ensures c.lean_images_run.ensures
