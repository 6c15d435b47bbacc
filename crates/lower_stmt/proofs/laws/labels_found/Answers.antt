use Rattle.lower_stmt.proofs.Labels.{are_labelled}
use Rattle.lower_stmt.proofs.laws.labels_found.Goals as goal

pub returns : goal.returns
returns c = λ p. are_labelled p
