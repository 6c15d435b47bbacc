-- Functions one behind another.
use Rattle.msp_layout.proofs.Order.{stand_apart}
use Rattle.msp_layout.proofs.laws.functions_stand_apart.Goals as goal

pub returns : goal.returns
returns c = stand_apart
