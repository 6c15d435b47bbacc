use Rattle.program_builder.proofs.Weighed.{stack_within}
use Rattle.program_builder.proofs.laws.stack_is_within_weight.Goals as goal

pub returns : goal.returns
returns c = stack_within c.stack_is_within_weight.ensures c.task_stack_is_within_weight.ensures
