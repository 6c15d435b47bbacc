use Rattle.range_sums.proofs.Sums.{runs_ranges}
use Rattle.range_sums.proofs.laws.runs_are_ranges.Goals as goal

pub returns : goal.returns
returns c = runs_ranges
