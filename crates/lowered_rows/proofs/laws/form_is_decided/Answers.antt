use Rattle.lowered_rows.proofs.Formed.{formed}
use Rattle.lowered_rows.proofs.laws.form_is_decided.Goals as goal

pub returns : goal.returns
returns c = formed
