use Rattle.msp_select.proofs.law.frames_are_small.Goals as goal
use Rattle.msp_select.proofs.Bounds.{frames_are_small as are_small}

pub returns : goal.returns
returns c = are_small
