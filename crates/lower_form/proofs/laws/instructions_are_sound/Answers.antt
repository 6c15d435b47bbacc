use Rattle.lower_form.proofs.Sound.{are_sound}
use Rattle.lower_form.proofs.laws.instructions_are_sound.Goals as goal

pub returns : goal.returns
returns c = λ p formed. are_sound p formed
