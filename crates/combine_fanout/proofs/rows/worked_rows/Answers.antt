use Rattle.std.proofs.Common.{refl}
use Rattle.combine_fanout.proofs.rows.worked_rows.Goals as goal

pub returns : goal.returns
returns c = record {
  combined = refl;
  last = refl;
  lost = refl;
  kept = refl;
  nothing_to_lose = refl;
  one_each = refl;
  by_default = refl;
  by_wire = refl;
  unwired = refl;
  both = refl;
  one = refl;
  none = refl;
}
