-- Each row computes.
use Rattle.std.proofs.Common.{refl}
use Rattle.preempt_bodies.proofs.rows.worked_rows.Goals as goal

pub returns : goal.returns
returns c = record { order = refl; least = refl; sleeps = refl }
