use Rattle.std.proofs.Common.{refl}
use Rattle.msp_select.proofs.rows.worked_rows.Goals as goal

pub returns : goal.returns
returns c = record { own = refl; first = refl; second = refl; parameter = refl; entry = refl; set = refl; one = refl; added = refl; branch = refl; call = refl; return = refl }
