use Rattle.lower_form.proofs.Sound.{is_small}
use Rattle.lower_form.proofs.laws.code_is_small.Goals as goal

pub returns : goal.returns
returns c = λ p formed short. is_small p formed short
