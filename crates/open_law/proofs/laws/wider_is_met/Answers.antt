use Rattle.open_law.proofs.laws.wider_is_met.Goals as goal
use Rattle.open_law.proofs.Wider.{wider_is_met as lemma}

pub returns : goal.returns
returns c = lemma
