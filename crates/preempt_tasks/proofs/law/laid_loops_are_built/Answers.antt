-- The items of the loop, laid out.
use Rattle.preempt_tasks.proofs.Laid.{laid_loops_are_built}
use Rattle.preempt_tasks.proofs.law.laid_loops_are_built.Goals as goal

pub returns : goal.returns
returns c = laid_loops_are_built
