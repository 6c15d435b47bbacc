use Rattle.lower_form.proofs.Counted.{is_numbered}
use Rattle.lower_form.proofs.laws.numbers_are_small.Goals as goal

pub returns : goal.returns
returns c = λ p short. is_numbered p short
