use Rattle.select_emitter.proofs.Called.{frames_are_bounded as are_bounded}
use Rattle.select_emitter.proofs.laws.frames_are_bounded.Goals as goal

pub returns : goal.returns
returns c = are_bounded
