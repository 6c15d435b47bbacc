use Rattle.std.proofs.Common.{refl}
use Rattle.act_rows.proofs.laws.worked_rows.Goals as goal

pub returns : goal.returns
returns c = record {
  lost_update = refl;
  accesses = refl;
  places = refl;
  operators = refl;
  parts_in_order = refl;
  calls_and_posts = refl;
  loops = refl;
  choices = refl;
  boot = refl;
}
