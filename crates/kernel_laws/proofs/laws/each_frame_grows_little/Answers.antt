use Rattle.kernel_laws.proofs.Frames.{frames_grow}
use Rattle.kernel_laws.proofs.laws.each_frame_grows_little.Goals as goal

pub returns : goal.returns
returns c = frames_grow
