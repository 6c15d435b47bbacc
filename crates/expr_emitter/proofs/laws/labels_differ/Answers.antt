use Rattle.expr_emitter.proofs.Labels.{has_labels}
use Rattle.expr_emitter.proofs.laws.labels_differ.Goals as goal

pub returns : goal.returns
returns c = λ p types checks spots e r l. has_labels p types checks spots e r l
