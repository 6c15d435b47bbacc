use Rattle.image_sizes.proofs.Whole.{data_within}
use Rattle.image_sizes.proofs.laws.data_is_within_weight.Goals as goal

pub returns : goal.returns
returns c = data_within
