use Rattle.lower_reached.proofs.Actions.{is_done}
use Rattle.lower_reached.proofs.laws.actions_are_done.Goals as goal

pub returns : goal.returns
returns c = λ p ranked formed f b is none answers small n a e. is_done p ranked formed f b is none answers small n a e
