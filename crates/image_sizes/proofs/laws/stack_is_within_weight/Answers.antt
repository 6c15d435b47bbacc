use Rattle.image_sizes.proofs.Whole.{stack_within}
use Rattle.image_sizes.proofs.laws.stack_is_within_weight.Goals as goal

pub returns : goal.returns
returns c = stack_within
