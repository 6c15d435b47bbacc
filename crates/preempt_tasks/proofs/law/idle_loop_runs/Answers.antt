-- The image with one task, whose bodies do nothing.
use Rattle.preempt_tasks.proofs.Idle.{idle_loop_runs}
use Rattle.preempt_tasks.proofs.law.idle_loop_runs.Goals as goal

pub returns : goal.returns
returns c = idle_loop_runs
