use Rattle.task_sizes.proofs.Data.{data_within}
use Rattle.task_sizes.proofs.laws.task_data_is_within_weight.Goals as goal

pub returns : goal.returns
returns c = data_within
