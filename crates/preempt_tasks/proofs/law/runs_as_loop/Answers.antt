-- The law, from the relation that is kept slot by slot.
use Rattle.preempt_tasks.proofs.Whole.{runs_as_loop}
use Rattle.preempt_tasks.proofs.law.runs_as_loop.Goals as goal

pub returns : goal.returns
returns c = runs_as_loop
