use Rattle.select_emitter.proofs.Written.{items_are_written as are_written}
use Rattle.select_emitter.proofs.laws.items_are_written.Goals as goal

pub returns : goal.returns
returns c = are_written
