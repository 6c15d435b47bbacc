use Rattle.lower_reached.proofs.Together.{accesses_left}
use Rattle.lower_reached.proofs.laws.accesses_are_left.Goals as goal

pub returns : goal.returns
returns c = accesses_left
