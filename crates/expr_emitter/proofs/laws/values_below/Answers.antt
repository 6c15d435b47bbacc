use Rattle.expr_emitter.proofs.Values.{names_below}
use Rattle.expr_emitter.proofs.laws.values_below.Goals as goal

pub returns : goal.returns
returns c = λ p types checks spots e r l n b h. names_below p types checks spots e r l n b h
