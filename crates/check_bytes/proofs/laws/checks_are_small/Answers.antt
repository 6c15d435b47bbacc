use Rattle.check_bytes.proofs.Checks.{checks_are_small as are_small}
use Rattle.check_bytes.proofs.laws.checks_are_small.Goals as goal

pub returns : goal.returns
returns c = are_small
