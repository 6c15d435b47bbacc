use Rattle.act_rows.proofs.Formed.{is_well_formed}
use Rattle.act_rows.proofs.FirstRunFormed.{first_run_is}
use Rattle.act_rows.proofs.laws.rows_are_well_formed.Goals as goal

pub returns : goal.returns
returns c = (first_run_is, is_well_formed)
