use Rattle.task_sizes.proofs.Stack.{stack_within}
use Rattle.task_sizes.proofs.laws.task_stack_is_within_weight.Goals as goal

pub returns : goal.returns
returns c = stack_within c.each_frame_grows_little.ensures
