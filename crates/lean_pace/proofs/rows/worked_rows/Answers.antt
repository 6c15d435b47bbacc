use Rattle.std.proofs.Common.{refl}
use Rattle.lean_pace.proofs.rows.worked_rows.Goals as goal

pub returns : goal.returns
returns c = record {
  queue_nodes = refl;
  pop_nodes = refl;
  queue_begins = refl;
  pop_begins = refl;
  post_called = refl;
  clearing_body = refl;
  three_bodies = refl;
  boot_gap = refl;
  three_gap = refl;
}
