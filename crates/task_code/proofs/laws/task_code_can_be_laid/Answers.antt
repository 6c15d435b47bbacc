-- The law of its name.
use Rattle.task_code.proofs.Good.{code_can_be_laid}
use Rattle.task_code.proofs.laws.task_code_can_be_laid.Goals as goal

pub returns : goal.returns
returns c = code_can_be_laid
