use Rattle.image_sizes.proofs.CodeWeight.{code_within}
use Rattle.image_sizes.proofs.laws.code_is_within_weight.Goals as goal

pub returns : goal.returns
returns c = code_within
