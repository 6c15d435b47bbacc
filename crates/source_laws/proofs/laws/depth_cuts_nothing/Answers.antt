use Rattle.source_laws.proofs.Depth.{depth_cuts_nothing}
use Rattle.source_laws.proofs.laws.depth_cuts_nothing.Goals as goal

pub returns : goal.returns
returns c = depth_cuts_nothing
