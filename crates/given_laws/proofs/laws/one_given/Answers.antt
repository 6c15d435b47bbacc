use Rattle.given_laws.proofs.OneGiven.{one_given}
use Rattle.given_laws.proofs.laws.one_given.Goals as goal

pub returns : goal.returns
returns c = one_given c.one_answer.ensures.targets
