use Rattle.open_law.proofs.laws.lone_return_is_open.Goals as goal
use Rattle.open_law.proofs.Lone.{lone_return as lemma}

pub returns : goal.returns
returns c = lemma
