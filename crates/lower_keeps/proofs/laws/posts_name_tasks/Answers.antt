use Rattle.lower_keeps.proofs.Bodies.{posts_name_tasks}
use Rattle.lower_keeps.proofs.laws.posts_name_tasks.Goals as goal

pub returns : goal.returns
returns c = posts_name_tasks
