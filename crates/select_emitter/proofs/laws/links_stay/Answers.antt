use Rattle.select_emitter.proofs.Called.{links_stay as stay}
use Rattle.select_emitter.proofs.laws.links_stay.Goals as goal

pub returns : goal.returns
returns c = stay
