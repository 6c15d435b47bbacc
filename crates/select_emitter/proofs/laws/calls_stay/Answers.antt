use Rattle.select_emitter.proofs.Called.{calls_stay as stay}
use Rattle.select_emitter.proofs.laws.calls_stay.Goals as goal

pub returns : goal.returns
returns c = stay
