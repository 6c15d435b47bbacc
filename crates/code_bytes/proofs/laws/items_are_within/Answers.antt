use Rattle.code_bytes.proofs.Within.{items_within}
use Rattle.code_bytes.proofs.laws.items_are_within.Goals as goal

pub returns : goal.returns
returns c = items_within
