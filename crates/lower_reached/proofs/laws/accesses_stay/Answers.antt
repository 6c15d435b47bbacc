use Rattle.lower_reached.proofs.Actions.{accesses_go_on}
use Rattle.lower_reached.proofs.laws.accesses_stay.Goals as goal

pub returns : goal.returns
returns c = λ p ranked formed f b is none stays answers small n. accesses_go_on p ranked formed f b is none stays answers small n
