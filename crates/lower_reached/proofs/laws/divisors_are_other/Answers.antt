use Rattle.lower_reached.proofs.Divisors.{divisors_are_other}
use Rattle.lower_reached.proofs.laws.divisors_are_other.Goals as goal

pub returns : goal.returns
returns c = divisors_are_other
