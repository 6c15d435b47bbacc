-- Where entries fall.
use Rattle.preempt_bodies.proofs.Stretches.{entries_fall_outside}
use Rattle.preempt_bodies.proofs.law.entries_fall_outside.Goals as goal

pub returns : goal.returns
returns c = entries_fall_outside
