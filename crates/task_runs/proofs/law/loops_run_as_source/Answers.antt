-- The law, from both levels together.
use Rattle.task_runs.proofs.Whole.{loops_run_as_source}
use Rattle.task_runs.proofs.law.loops_run_as_source.Goals as goal

pub returns : goal.returns
returns c = loops_run_as_source
