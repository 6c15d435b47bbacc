use Rattle.task_image.proofs.Ordered.{task_code_stands}
use Rattle.task_image.proofs.law.task_code_stands.Goals as goal

pub returns : goal.returns
returns c = task_code_stands
