use Rattle.mote_bus.proofs.Shows.{shows}
use Rattle.mote_bus.proofs.laws.steps_show_accesses.Goals as goal

pub returns : goal.returns
returns c = shows
