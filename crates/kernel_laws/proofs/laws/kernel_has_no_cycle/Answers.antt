use Rattle.kernel_laws.proofs.Cycles.{kernel_has_no_cycle}
use Rattle.kernel_laws.proofs.laws.kernel_has_no_cycle.Goals as goal

pub returns : goal.returns
returns c = kernel_has_no_cycle
