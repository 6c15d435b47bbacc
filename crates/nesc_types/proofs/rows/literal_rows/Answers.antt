use Rattle.std.proofs.Common.{refl}
use Rattle.nesc_types.proofs.rows.literal_rows.Goals as goal

pub returns : goal.returns
returns c = record {
  decimals = refl;
  hexadecimals = refl;
  octals = refl;
}
