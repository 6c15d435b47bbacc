use Rattle.lower_stmt.proofs.Behaving.{behaves_still}
use Rattle.lower_stmt.proofs.laws.behaves_on.Goals as goal

pub returns : goal.returns
returns c = λ above middle below h k. behaves_still above middle below h k
