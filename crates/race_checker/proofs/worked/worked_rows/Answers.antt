use Rattle.std.proofs.Common.{refl}
use Rattle.race_checker.proofs.worked.worked_rows.Goals as goal

pub returns : goal.returns
returns c = record { through_a_pointer = refl; not_taken = refl; marked = refl; site_in_atomic = refl; call_in_atomic = refl }
