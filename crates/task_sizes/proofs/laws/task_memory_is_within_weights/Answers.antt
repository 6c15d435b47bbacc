use Rattle.task_sizes.proofs.Stack.{memory_within}
use Rattle.task_sizes.proofs.laws.task_memory_is_within_weights.Goals as goal

pub returns : goal.returns
returns c = memory_within c.each_frame_grows_little.ensures
