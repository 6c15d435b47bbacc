use Rattle.lower_form.proofs.Form.{keeps_form}
use Rattle.lower_form.proofs.laws.form_is_kept.Goals as goal

pub returns : goal.returns
returns c = λ p formed short. keeps_form p formed short
