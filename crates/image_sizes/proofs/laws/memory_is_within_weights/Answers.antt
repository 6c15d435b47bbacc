use Rattle.image_sizes.proofs.Whole.{memory_within}
use Rattle.image_sizes.proofs.laws.memory_is_within_weights.Goals as goal

pub returns : goal.returns
returns c = memory_within
