-- Depths by ranks.
use Rattle.msp_layout.proofs.ByRank.{stack_holds_depths}
use Rattle.msp_layout.proofs.laws.stack_holds_depths.Goals as goal

pub returns : goal.returns
returns c = stack_holds_depths
