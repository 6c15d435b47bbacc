-- Loop runs, move by move.
use Rattle.loop_runs.proofs.Whole.{loop_runs}
use Rattle.loop_runs.proofs.law.loop_runs.Goals as goal

pub returns : goal.returns
returns c = loop_runs
