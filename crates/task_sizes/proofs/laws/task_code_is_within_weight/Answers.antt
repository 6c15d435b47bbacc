use Rattle.task_sizes.proofs.CodeWeight.{code_within}
use Rattle.task_sizes.proofs.laws.task_code_is_within_weight.Goals as goal

pub returns : goal.returns
returns c = code_within
