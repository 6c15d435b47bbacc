use Rattle.msp_select.proofs.law.frames_fit.Goals as goal
use Rattle.msp_select.proofs.Frames.{frames_fit as fits}

pub returns : goal.returns
returns c = fits
