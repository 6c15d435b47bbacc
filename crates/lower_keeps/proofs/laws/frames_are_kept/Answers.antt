use Rattle.lower_keeps.proofs.Bodies.{frames_are_kept}
use Rattle.lower_keeps.proofs.laws.frames_are_kept.Goals as goal

pub returns : goal.returns
returns c = frames_are_kept
