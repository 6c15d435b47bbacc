use Rattle.range_sums.proofs.Few.{checks_few}
use Rattle.range_sums.proofs.laws.checks_are_few.Goals as goal

pub returns : goal.returns
returns c = checks_few
