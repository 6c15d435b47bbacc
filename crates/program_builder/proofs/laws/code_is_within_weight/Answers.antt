use Rattle.program_builder.proofs.Weighed.{code_within}
use Rattle.program_builder.proofs.laws.code_is_within_weight.Goals as goal

pub returns : goal.returns
returns c = code_within c.code_is_within_weight.ensures c.task_code_is_within_weight.ensures
