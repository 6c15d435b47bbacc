use Rattle.lower_stmt.proofs.Behaving.{roots_behave}
use Rattle.lower_stmt.proofs.Labels.{are_labelled}
use Rattle.lower_stmt.proofs.laws.roots_behave.Goals as goal

pub returns : goal.returns
returns c = λ p ranked formed f b is none ok. roots_behave p ranked formed (are_labelled p) f b is none ok
