use Rattle.postless_code.proofs.Whole.{kernels_post_nothing}
use Rattle.postless_code.proofs.law.kernels_post_nothing.Goals as goal

pub returns : goal.returns
returns c = kernels_post_nothing
