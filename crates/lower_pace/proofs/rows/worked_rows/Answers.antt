use Rattle.std.proofs.Common.{refl}
use Rattle.lower_pace.proofs.rows.worked_rows.Goals as goal

pub returns : goal.returns
returns c = record {
  turn_begins = refl;
  bytes_cleared = refl;
  bytes_weighed = refl;
  function_called = refl;
}
