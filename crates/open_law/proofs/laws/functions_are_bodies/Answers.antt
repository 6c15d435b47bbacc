use Rattle.open_law.proofs.laws.functions_are_bodies.Goals as goal
use Rattle.open_law.proofs.Law.{functions_are_bodies as lemma}

pub returns : goal.returns
returns c = lemma
