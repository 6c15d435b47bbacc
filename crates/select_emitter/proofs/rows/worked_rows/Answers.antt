use Rattle.std.proofs.Common.{refl}
use Rattle.select_emitter.proofs.rows.worked_rows.Goals as goal

pub returns : goal.returns
returns c = refl
