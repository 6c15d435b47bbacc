-- Move by move.
use Rattle.loop_runs.proofs.Whole.{loops_are_followed}
use Rattle.loop_runs.proofs.law.loops_are_followed.Goals as goal

pub returns : goal.returns
returns c = loops_are_followed
