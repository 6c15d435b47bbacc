use Rattle.program_builder.proofs.Weighed.{memory_within}
use Rattle.program_builder.proofs.laws.memory_is_within_weights.Goals as goal

pub returns : goal.returns
returns c = memory_within c.memory_is_within_weights.ensures c.task_memory_is_within_weights.ensures
