use Rattle.kernel_formed.proofs.Formed.{kernel_formed}
use Rattle.kernel_formed.proofs.laws.kernel_is_well_formed.Goals as goal

pub returns : goal.returns
returns c = kernel_formed
