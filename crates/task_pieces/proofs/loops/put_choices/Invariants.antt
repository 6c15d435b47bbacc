-- What is written and what is left are the choices of all tasks.
use Rattle.std.proofs.Common.{◌≡◌, ◌++◌, drop}
use Rattle.preempt_tasks.specs.Laid.{choice_items}
use Rattle.task_pieces.proofs.loops.put_choices.Given as goal

abbrev pub invariant-loop-k : goal.invariant-loop-k
invariant-loop-k l = l.items.items ++ choice_items l.k (drop l.k l.tasks) ≡ l.fn.items.items ++ choice_items 0 l.tasks
